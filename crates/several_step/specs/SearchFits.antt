-- Which problems the step by search fits. Own.
use Rattle.std.specs.Prelude.{◌≡◌, ℕ, ◌≤◌, Bool, List, length}
use Rattle.offer_model.specs.Problems.{ProblemData, product_count}
use Rattle.offer_model.specs.Validity.{IsProblem}
use Rattle.linear_weights.specs.Weights.{WeightsData}
use Rattle.multiplier_bound.specs.Fits.{MultipliersData, HasLists}
use Rattle.several_step.specs.declared.rungs.Rung.{Rung}
use Rattle.several_step.specs.Chains.{AreRungs}
use Rattle.several_step.specs.ChainFits.{RoundingData}
use Rattle.several_step.specs.Firsts.{FirstData}

-- What bounds nodes, as contracts see it.
pub record BoundingData : Type 0 where
  pub rungs : List Rung
  pub limited : List Bool
  pub multipliers : MultipliersData
  pub list : WeightsData
  pub ends : ℕ
  pub rounding : RoundingData
  pub taken : ℕ
  pub first : FirstData

-- It has the problem's rungs and multipliers, and room for its products and limits.
pub record FitsBounding (p : ProblemData) (b : BoundingData) : Type 0 where
  pub valid : IsProblem p
  pub rungs : AreRungs p b.rungs b.limited
  pub multipliers : HasLists p b.multipliers
  pub list : length b.list.items ≡ product_count p
  pub ends : b.ends ≡ product_count p
  pub products : b.rounding.products ≡ product_count p
  pub limits : b.rounding.limits ≡ length p.limits
  pub taken : b.taken ≡ product_count p
  pub first : length b.first.offered ≡ product_count p

-- What problems it fits is as before: only prices and the first completion differ.
pub record IsAsBefore (old new : BoundingData) : Type 0 where
  pub rungs : new.rungs ≡ old.rungs
  pub limited : new.limited ≡ old.limited
  pub multipliers : new.multipliers ≡ old.multipliers
  pub list : length new.list.items ≡ length old.list.items
  pub ends : new.ends ≡ old.ends
  pub rounding : new.rounding ≡ old.rounding
  pub taken : new.taken ≡ old.taken
  pub first : length new.first.offered ≡ length old.first.offered

-- And room to rank the products.
pub record FitsSearch (p : ProblemData) (b : BoundingData) (room : ℕ) : Type 0 where
  pub bounding : FitsBounding p b
  pub ranks : product_count p ≤ room

-- And room for scaled weights.
pub record FitsStep (p : ProblemData) (b : BoundingData) (room : ℕ) (scaled : WeightsData) : Type 0 where
  pub searching : FitsSearch p b room
  pub weights : product_count p ≤ scaled.room

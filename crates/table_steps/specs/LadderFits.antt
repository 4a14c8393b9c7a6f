-- Which problems a step under ladders fits. Own.
use Rattle.std.specs.Prelude.{◌≡◌, ℕ, ◌<◌, Bool, false, List, length, slice_index_or}
use Rattle.offer_model.specs.declared.products.Limit.{Limit}
use Rattle.offer_model.specs.declared.products.Limit.TheVariants.{Total, Category, Requires, Shelf, Ladder}
use Rattle.offer_model.specs.Problems.{ProblemData, product_count}
use Rattle.offer_model.specs.Validity.{IsProblem}
use Rattle.offer_model.specs.LeafBounds.{is_limited, ladder_of}
use Rattle.limit_rules.specs.Broken.{limit_at}
use Rattle.limit_rules.specs.Kinds.{kind_of}
use Rattle.limit_rules.specs.declared.kind.Kind.TheVariants as K
use Rattle.table_steps.specs.LadderRungs.{RungsData, AreRungs, rungs_at}

-- The ladder that a limit names; 0 of another limit.
abbrev pub named_ladder : Limit → ℕ
named_ladder (Ladder l) = l
named_ladder (Total cap) = 0
named_ladder (Category c cap) = 0
named_ladder (Requires a b) = 0
named_ladder (Shelf space) = 0

-- All limits are ladders, and the first k have these products.
pub record AreLaddersBelow (p : ProblemData) (k : ℕ) (ladders : List RungsData) : Type 0 where
  pub each : length ladders ≡ k
  pub named : (j : ℕ) → j < k → limit_at p j ≡ Ladder (rungs_at ladders j).ladder
  pub rungs : (j : ℕ) → j < k → AreRungs p (rungs_at ladders j)

pub record AreLadders (p : ProblemData) (ladders : List RungsData) : Type 0 where
  pub valid : IsProblem p
  pub kind : kind_of p.limits ≡ K.Ladder
  pub below : AreLaddersBelow p (length p.limits) ladders

-- For each product, whether its ladder has a limit.
pub record AreLimited (p : ProblemData) (limited : List Bool) : Type 0 where
  pub each : length limited ≡ product_count p
  pub is : (i : ℕ) → i < product_count p → slice_index_or limited i false ≡ is_limited p.limits (ladder_of p i)

-- What the step holds fits the problem: its ladders, which products they limit, and so many numbers and places as it has
-- products.
pub record FitsLadders (p : ProblemData) (ladders : List RungsData) (limited : List Bool) (numbers places : ℕ) : Type 0 where
  pub are : AreLadders p ladders
  pub flags : AreLimited p limited
  pub numbers_each : numbers ≡ product_count p
  pub places_each : places ≡ product_count p

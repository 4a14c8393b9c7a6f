-- What the bound by chains needs so that its sums fit. Own.
use Rattle.std.specs.Prelude.{◌≡◌, ℕ, ◌<◌, ◌≤◌, ◌^◌, Bool, List, length, pos, ◌+ℤ◌, ◌≤ℤ◌}
use lib.IntN.{ℤ}
use Rattle.std.specs.List.{All}
use Rattle.offer_model.specs.declared.node.Mark.{Mark}
use Rattle.offer_model.specs.Problems.{ProblemData, product_count}
use Rattle.offer_model.specs.Nodes.{mark_at}
use Rattle.offer_model.specs.Prices.{Prices, int_sum_below}
use Rattle.offer_model.specs.LeafBounds.{most_beside}
use Rattle.linear_weights.specs.Weights.{WeightsData, IsWithin, SumsFit, weight_at, prices_of}
use Rattle.multiplier_bound.specs.Fits.{Relaxes}
use Rattle.several_step.specs.declared.rungs.Rung.{Rung}
use Rattle.several_step.specs.Chains.{rung_at, flag_at}

abbrev pub AreInside : ℕ → List Rung → Type 0
AreInside n rungs = All (λ (r : Rung). r.at < n) rungs

-- Few rungs, none dear.
pub record HasPrices (price : ℕ → ℤ) (rungs : List Rung) : Type 0 where
  pub few : length rungs ≤ 256
  pub small : (k : ℕ) → k < length rungs → price (rung_at rungs k).at ≤ℤ pos (2 ^ 111)

-- What the products below n add at most beside the ladders fits, for each n.
abbrev pub BesideFits : ProblemData → List Mark → Prices → List Bool → Type 0
BesideFits p node at limited = (n : ℕ) → n ≤ product_count p
    → IsWithin (2 ^ 126) (at.constant +ℤ int_sum_below n (λ i. most_beside (mark_at node i) (flag_at limited i) (at.price i)))

-- At most a rung a product, and each is one.
pub record FitRungs (p : ProblemData) (rungs : List Rung) (limited : List Bool) : Type 0 where
  pub few : length rungs ≤ product_count p
  pub each : length limited ≡ product_count p
  pub inside : AreInside (product_count p) rungs

-- A price for each product, none too great, and sums of them fit.
pub record IsList (p : ProblemData) (list : WeightsData) : Type 0 where
  pub few : product_count p ≤ 256
  pub each : length list.items ≡ product_count p
  pub small : (i : ℕ) → i < product_count p → weight_at list i ≤ℤ pos (2 ^ 111)
  pub sums : (node : List Mark) → SumsFit p node (prices_of list)

-- The list has the prices that some multipliers of at most 2 ^ 100 make of these.
pub record IsRelaxedList (p : ProblemData) (at : Prices) (list : WeightsData) : Type 0 where
  pub relaxes : Relaxes p at list
  pub prices : IsList p list

abbrev pub AreBelow : ℕ → List ℕ → Type 0
AreBelow n list = All (λ i. i < n) list

-- For how many products and limits there is room.
pub record RoundingData : Type 0 where
  pub products : ℕ
  pub limits : ℕ

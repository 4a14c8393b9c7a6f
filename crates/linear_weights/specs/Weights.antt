-- Weights of products: what an assortment weighs is their sum. At a trial revenue they are its prices. Own.
use Rattle.std.specs.Prelude.{◌≡◌, ℕ, ◌^◌, ◌<◌, ◌≤◌, List, length, pos, ◌+ℤ◌, ◌<ℤ◌, slice_index_or}
use lib.IntN.{ℤ}
use Rattle.offer_model.specs.declared.node.Mark.{Mark}
use Rattle.offer_model.specs.Problems.{ProblemData, product_count}
use Rattle.offer_model.specs.Nodes.{mark_at}
use Rattle.offer_model.specs.Prices.{Prices, prices_at, int_sum_below, most_of}

-- The weights, the constant, and for how many weights there is room.
pub record WeightsData : Type 0 where
  pub items : List ℤ
  pub constant : ℤ
  pub room : ℕ

abbrev pub weight_at : WeightsData → ℕ → ℤ
weight_at w i = slice_index_or w.items i (pos 0)

-- Weights as prices: what an assortment weighs is what it is worth at them.
abbrev pub prices_of : WeightsData → Prices
prices_of w = record { constant = w.constant; price = weight_at w }

-- The size of each price at a revenue is below this.
abbrev pub price_bound : ℕ
price_bound = 2 ^ 98

-- The size of the constant at a revenue is below this.
abbrev pub constant_bound : ℕ
constant_bound = 2 ^ 106

-- The size of z is below m.
abbrev pub IsWithin : ℕ → ℤ → Type 0
IsWithin m z = (z <ℤ pos m) × (pos 0 <ℤ (z +ℤ pos m))

-- One weight for each product, each as small as prices at a revenue are.
pub record AreWeights (p : ProblemData) (w : WeightsData) : Type 0 where
  pub each : length w.items ≡ product_count p
  pub small : (i : ℕ) → i < product_count p → IsWithin price_bound (weight_at w i)
  pub constant : IsWithin constant_bound w.constant

-- The weights are the prices at the revenue num / den.
abbrev pub AreAt : ProblemData → ℕ → ℕ → WeightsData → Type 0
AreAt p num den w = prices_of w ≡ prices_at p num den

-- What the products below n of the node add at most to the constant fits, for each n.
abbrev pub SumsFit : ProblemData → List Mark → Prices → Type 0
SumsFit p node at = (n : ℕ) → n ≤ product_count p
    → IsWithin (2 ^ 126) (at.constant +ℤ int_sum_below n (λ i. most_of (mark_at node i) (at.price i)))

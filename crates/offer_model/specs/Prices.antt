-- Prices: what each product adds at a trial revenue, and what a node's completions are worth at them. Own; at a trial
-- revenue in the way of Dinkelbach's method for ratios.
use Rattle.std.specs.Prelude.{ℕ, ◌+◌, ◌*◌, Bool, cond, List, pos, negsuc, ◌+ℤ◌, ◌-ℤ◌}
use lib.IntN.{ℤ}
use Prim.Native.Nat.{zero, suc}
use Rattle.offer_model.specs.declared.node.Mark.{Mark}
use Rattle.offer_model.specs.declared.node.Mark.TheVariants.{In, Out, Open}
use Rattle.offer_model.specs.Assortments.{offers, sum_below}
use Rattle.offer_model.specs.Problems.{SegmentData, ProblemData, product_count, margin_of, attraction_of, shadow_of, first_segment}
use Rattle.offer_model.specs.Nodes.{mark_at}

-- The sum of f over the products below n.
abbrev pub int_sum_below : ℕ → (ℕ → ℤ) → ℤ
int_sum_below zero f = pos 0
int_sum_below (suc n) f = int_sum_below n f +ℤ f n

-- A constant, and a price for each product.
pub record Prices : Type 0 where
  pub constant : ℤ
  pub price : ℕ → ℤ

-- The constant, and the prices of what is offered.
abbrev pub worth_of : ProblemData → Prices → List Bool → ℤ
worth_of p at y = at.constant +ℤ int_sum_below (product_count p) (λ i. cond (offers y i) (at.price i) (pos 0))

-- The prices at the revenue num / den. An assortment is then worth den times its gain less num times its weight:
-- more than 0 exactly where it earns more than that.
abbrev pub prices_at : ProblemData → ℕ → ℕ → Prices
prices_at p num den = let g = first_segment p in record {
  constant = pos 0 -ℤ pos (num * (g.none + sum_below (product_count p) (shadow_of g)));
  price = λ i.
      pos (den * (margin_of p i * attraction_of g i) + num * shadow_of g i) -ℤ pos (num * attraction_of g i);
}

-- Under mixed logit, the prices in one segment above a number of units: an assortment that is worth less than 0
-- brings no more than these in the segment.
abbrev pub prices_above : ProblemData → SegmentData → ℕ → Prices
prices_above p g units = record {
  constant = pos 0 -ℤ pos ((units + 1) * g.none);
  price = λ i. pos (g.size * p.unit * (margin_of p i * attraction_of g i)) -ℤ pos ((units + 1) * attraction_of g i);
}

abbrev pub positive_part : ℤ → ℤ
positive_part (pos n) = pos n
positive_part (negsuc n) = pos 0

-- What a product with this mark adds at most.
abbrev pub most_of : Mark → ℤ → ℤ
most_of In price = price
most_of Out price = pos 0
most_of Open price = positive_part price

-- The constant, the prices of what is In, and the positive prices of what is Open: with limits left aside, the
-- greatest worth of a completion.
abbrev pub greatest_worth : ProblemData → List Mark → Prices → ℤ
greatest_worth p node at =
    at.constant +ℤ int_sum_below (product_count p) (λ i. most_of (mark_at node i) (at.price i))

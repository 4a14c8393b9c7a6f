-- Markov chains, as plain lists and numbers. Gallego and Topaloglu (2019), Revenue Management and Pricing Analytics:
-- Markov chain choice. The scale of whole parts is our own.
use Rattle.std.specs.Prelude.{ℕ, ◌+◌, ◌-◌, ◌*◌, ◌==◌, ◌&&◌, max, min, cond, List, [], ◌∷◌, length, slice_index}
use Prim.Native.Nat.{zero, suc}
use Rattle.offer_model.specs.declared.arc.Arc.{Arc}
use Rattle.offer_model.specs.Assortments.{sum_below}

-- A customer arrives at a product with its arrival as weight, or with the weight `away` at none. At a product that is
-- offered he buys it; at another he moves along an arc with its parts of the scale as chance, or leaves.
pub record ChainData : Type 0 where
  pub scale : ℕ
  pub away : ℕ
  pub margins : List ℕ
  pub arrivals : List ℕ
  pub arcs : List Arc

-- The number of products.
abbrev pub place_count : ChainData → ℕ
place_count c = length c.margins

abbrev pub parts_along : List Arc → ℕ → ℕ → ℕ
parts_along [] i j = 0
parts_along (arc ∷ arcs) i j = cond ((arc.from == i) && (arc.to == j)) arc.parts 0 + parts_along arcs i j

-- The parts of the scale that move from product i to product j.
abbrev pub parts_between : ChainData → ℕ → ℕ → ℕ
parts_between c i j = parts_along c.arcs i j

-- One move from product i: the parts to each product, times what f has there.
abbrev pub moved : ChainData → ℕ → (ℕ → ℕ) → ℕ
moved c i f = sum_below (place_count c) (λ j. parts_between c i j * f j)

-- What f has where customers arrive, times the arrivals.
abbrev pub arriving : ChainData → (ℕ → ℕ) → ℕ
arriving c f = sum_below (place_count c) (λ i. slice_index c.arrivals i * f i)

-- The weight of all customers.
abbrev pub customer_count : ChainData → ℕ
customer_count c = c.away + sum_below (place_count c) (λ i. slice_index c.arrivals i)

abbrev pub greatest_below : List ℕ → ℕ → ℕ
greatest_below margins zero = 0
greatest_below margins (suc n) = max (greatest_below margins n) (slice_index margins n)

-- The greatest margin, 0 without products.
abbrev pub greatest_margin : ChainData → ℕ
greatest_margin c = greatest_below c.margins (place_count c)

abbrev pub least_leaving_below : ChainData → ℕ → ℕ
least_leaving_below c zero = c.scale
least_leaving_below c (suc n) = min (least_leaving_below c n) (c.scale - moved c n (λ j. 1))

-- The least part of the scale with which customers leave at a product that isn't offered.
abbrev pub least_leaving : ChainData → ℕ
least_leaving c = least_leaving_below c (place_count c)

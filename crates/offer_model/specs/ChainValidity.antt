-- Which chains there are: the ranges of their numbers, and what fits together. Own.
use Rattle.std.specs.Prelude.{◌≡◌, ℕ, ◌≤◌, ◌<◌, length, slice_index, All, AllPairs}
use Rattle.offer_model.specs.Assortments.{sum_below}
use Rattle.offer_model.specs.Chains.{ChainData, place_count, moved}

-- The numbers are in their ranges and fit together: arcs lead between products, one for a pair, some customers leave at
-- each product that isn't offered, and some arrive at a product.
pub record IsChain (c : ChainData) : Type 0 where
  pub some : 1 ≤ c.scale
  pub scale : c.scale ≤ 10000
  pub away : c.away ≤ 1000000000
  pub few : place_count c ≤ 256
  pub margins : (i : ℕ) → i < place_count c → slice_index c.margins i ≤ 1000000000
  pub each : length c.arrivals ≡ place_count c
  pub arrivals : (i : ℕ) → i < place_count c → slice_index c.arrivals i ≤ 1000000000
  pub few_arcs : length c.arcs ≤ 65536
  pub ends : All (λ arc. (arc.from < place_count c) × (arc.to < place_count c)) c.arcs
  pub once : AllPairs (λ a b. (a.from ≡ b.from) × (a.to ≡ b.to) → ⊥) c.arcs
  pub leave : (i : ℕ) → i < place_count c → moved c i (λ j. 1) < c.scale
  pub arrive : 0 < sum_below (place_count c) (slice_index c.arrivals)

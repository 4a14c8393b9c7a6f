-- Vectors, product by product.
use Rattle.std.proofs.Common.{◌≡◌, ℕ, Bool, List, length, arith, ◌<◌, ◌≤◌, ◌^◌}
use Rattle.offer_model.specs.Chains.{ChainData, place_count}
use Rattle.offer_model.specs.Stopping.{value_bound}
use Rattle.offer_model.specs.Brackets.{BoundsAbove, BoundsBelow}
use Rattle.chain_moves.specs.Values.{AreSmall}
use Rattle.chain_check.specs.Vectors.{AreMost, IsAboveAt, IsBelowAt}

pub above_all : (c : ChainData) (us : List ℕ) (k : ℕ) → length us ≡ place_count c → length us ≤ k → ((i : ℕ) → i < k → IsAboveAt c us i) → BoundsAbove c us
above_all c us k each end at = record {
  each = each;
  margin = λ i l. (at i (omega arith)).margin;
  moves = λ i l. (at i (omega arith)).moves;
}

pub above_at : (c : ChainData) (us : List ℕ) (i : ℕ) → i < place_count c → BoundsAbove c us → IsAboveAt c us i
above_at c us i l b = record { margin = b.margin i l; moves = b.moves i l }

pub below_all : (c : ChainData) (x : List Bool) (us : List ℕ) (k : ℕ) → AreMost (place_count c) (value_bound c) us → length us ≤ k
    → ((i : ℕ) → i < k → IsBelowAt c x us i) → BoundsBelow c x us
below_all c x us k most end at = record {
  each = most.each;
  small = most.small;
  margin = λ i l. (at i (omega (arith, most.each))).margin;
  moves = λ i l. (at i (omega (arith, most.each))).moves;
}

pub below_at : (c : ChainData) (x : List Bool) (us : List ℕ) (i : ℕ) → i < place_count c → BoundsBelow c x us → IsBelowAt c x us i
below_at c x us i l b = record { margin = b.margin i l; moves = b.moves i l }

-- None is above what no sum overflows with.
pub most_small : (n most : ℕ) (us : List ℕ) → most ≤ 10 ^ 15 → AreMost n most us → AreSmall us
most_small n most us little at = λ j l. let here = at.small j (omega (arith, at.each)) in omega arith

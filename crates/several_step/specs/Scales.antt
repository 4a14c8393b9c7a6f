-- Weights that are scaled up alike. Own.
use Rattle.std.specs.Prelude.{◌≡◌, ◌⊎◌, ℕ, ◌<◌, ◌^◌, Bool, true, false, pos, ◌*ℤ◌}
use lib.IntN.{ℤ}
use Rattle.offer_model.specs.Problems.{ProblemData, product_count}
use Rattle.linear_weights.specs.Weights.{WeightsData, IsWithin, weight_at}
use Rattle.tree_search.specs.Turns.{least}

-- The number times 1,024, or as it is.
abbrev pub times : Bool → ℤ → ℤ
times true z = z *ℤ pos 1024
times false z = z

-- Scaled up they are still as small as weights are.
pub record AreSmallEnough (p : ProblemData) (w : WeightsData) : Type 0 where
  pub prices : (i : ℕ) → i < product_count p → IsWithin (2 ^ 88) (weight_at w i)
  pub constant : IsWithin (2 ^ 96) w.constant

-- The weights are the others scaled up, or as they are, and so is the floor; the least number, which is no floor, stays.
pub record AreScaled (p : ProblemData) (w : WeightsData) (floor : ℤ) (scaled : WeightsData) (raised : ℤ) : Type 0 where
  pub up : Bool
  pub constant : scaled.constant ≡ times up w.constant
  pub price : (i : ℕ) → i < product_count p → weight_at scaled i ≡ times up (weight_at w i)
  pub from : (raised ≡ times up floor) ⊎ ((floor ≡ least) × (raised ≡ least))

-- How multipliers move prices. Own; multipliers are Lagrange multipliers of the limits.
use Rattle.std.specs.Prelude.{◌≡◌, ℕ, ◌<◌, List, length, pos, ◌+ℤ◌, ◌-ℤ◌, slice_index}
use Rattle.offer_model.specs.declared.products.Limit.{Limit}
use Rattle.offer_model.specs.Assortments.{sum_below}
use Rattle.offer_model.specs.Problems.{ProblemData, product_count}
use Rattle.offer_model.specs.Prices.{Prices}
use Rattle.offer_model.specs.LeafBounds.{taken_by, added_by, allowed_by, priced_limit_at}
use Rattle.linear_weights.specs.Weights.{WeightsData, weight_at}

-- Each price and the constant have moved by the limit's multiplier u.
pub record IsMoved (p : ProblemData) (limit : Limit) (u : ℕ) (before : Prices) (after : WeightsData) : Type 0 where
  pub each : length after.items ≡ product_count p
  pub price : (i : ℕ) → i < product_count p
      → weight_at after i ≡ (before.price i +ℤ pos (added_by limit u i)) -ℤ pos (taken_by p limit u i)
  pub constant : after.constant ≡ before.constant +ℤ pos (allowed_by limit u)

-- They have moved by the first k of the multipliers us.
pub record AreRelaxed (p : ProblemData) (us : List ℕ) (before : Prices) (after : WeightsData) (k : ℕ) : Type 0 where
  pub each : length after.items ≡ product_count p
  pub price : (i : ℕ) → i < product_count p → weight_at after i
      ≡ (before.price i +ℤ pos (sum_below k (λ j. added_by (priced_limit_at p j) (slice_index us j) i)))
      -ℤ pos (sum_below k (λ j. taken_by p (priced_limit_at p j) (slice_index us j) i))
  pub constant : after.constant
      ≡ before.constant +ℤ pos (sum_below k (λ j. allowed_by (priced_limit_at p j) (slice_index us j)))

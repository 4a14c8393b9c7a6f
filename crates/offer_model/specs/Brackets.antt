-- Vectors that bracket what customers of a chain bring: one number for each product, in millionths of a margin
-- unit. Own.
use Rattle.std.specs.Prelude.{◌≡◌, ℕ, ◌*◌, ◌<◌, ◌≤◌, Bool, true, false, List, length, slice_index}
use Rattle.offer_model.specs.Assortments.{offers}
use Rattle.offer_model.specs.Chains.{ChainData, place_count, moved}
use Rattle.offer_model.specs.Stopping.{own_value, value_bound}

-- Whatever is offered, a customer at a product brings at most its number: it is at least the product's own margin,
-- and at least what one move brings to.
pub record BoundsAbove (c : ChainData) (us : List ℕ) : Type 0 where
  pub each : length us ≡ place_count c
  pub margin : (i : ℕ) → i < place_count c → own_value c i ≤ slice_index us i
  pub moves : (i : ℕ) → i < place_count c → moved c i (slice_index us) ≤ c.scale * slice_index us i

-- With this assortment a customer at a product brings at least its number: it is at most the product's own margin
-- where it is offered, and else at most what one move brings to.
pub record BoundsBelow (c : ChainData) (x : List Bool) (hs : List ℕ) : Type 0 where
  pub each : length hs ≡ place_count c
  pub small : (i : ℕ) → i < place_count c → slice_index hs i ≤ value_bound c
  pub margin : (i : ℕ) → i < place_count c → offers x i ≡ true → slice_index hs i ≤ own_value c i
  pub moves : (i : ℕ) → i < place_count c → offers x i ≡ false
      → c.scale * slice_index hs i ≤ moved c i (slice_index hs)

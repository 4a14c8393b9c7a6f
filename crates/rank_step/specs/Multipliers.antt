-- The multipliers of a filling: a product pays the greater of its two cutoffs. Own.
use Rattle.std.specs.Prelude.{◌≡◌, ℕ, ◌-◌, ◌<◌, cond, List, length, slice_index}
use Rattle.rank_step.specs.Caps.{PlacesData, is_place}
use Rattle.rank_step.specs.Rooms.{RoomsData, cutoff_at, cutoff_of}

-- The total cap's multiplier is its cutoff, a category's is what its cutoff is above that.
abbrev pub multiplier_at : PlacesData → RoomsData → ℕ → ℕ
multiplier_at at rooms k = cond (is_place at.total k) (cutoff_at rooms k) (cutoff_at rooms k - cutoff_of rooms at.total)

pub record AreMultipliers (at : PlacesData) (rooms : RoomsData) (us : List ℕ) : Type 0 where
  pub each : length us ≡ length rooms.cutoffs
  pub is : (k : ℕ) → k < length rooms.cutoffs → slice_index us k ≡ multiplier_at at rooms k

-- The room under caps while products are offered. Own.
use Rattle.std.specs.Prelude.{◌≡◌, ℕ, ◌+◌, ◌<◌, ◌≤◌, ◌⊎◌, ◌==◌, ⊤, Bool, cond, List, length, Option, Some, None, slice_index, slice_set}
use Rattle.offer_model.specs.Assortments.{offers, sum_below}
use Rattle.offer_model.specs.Problems.{ProblemData}
use Rattle.rank_step.specs.Caps.{PlacesData, limit_at, cap_of, count_of, category_place, is_place, IsBelow}

-- By limit: the room that is left, and the cutoff, which is the weight of the first product that found no room, and 0 as long
-- as there was none.
pub record RoomsData : Type 0 where
  pub left : List ℕ
  pub cutoffs : List ℕ

abbrev pub room_at : RoomsData → ℕ → ℕ
room_at rooms k = slice_index rooms.left k

abbrev pub cutoff_at : RoomsData → ℕ → ℕ
cutoff_at rooms k = slice_index rooms.cutoffs k

-- The cutoff of a cap, and 0 where there is no cap.
abbrev pub cutoff_of : RoomsData → Option ℕ → ℕ
cutoff_of rooms None = 0
cutoff_of rooms (Some k) = cutoff_at rooms k

-- One room and one cutoff for each limit.
pub record AreRooms (p : ProblemData) (rooms : RoomsData) : Type 0 where
  pub left : length rooms.left ≡ length p.limits
  pub cutoffs : length rooms.cutoffs ≡ length p.limits

-- What each cap counts of the products below n that x offers, and the room that is left, are the cap.
abbrev pub AreTaken : ProblemData → List Bool → ℕ → RoomsData → Type 0
AreTaken p x n rooms = (k : ℕ) → k < length p.limits
    → sum_below n (λ i. cond (offers x i) (count_of p (limit_at p k) i) 0) + room_at rooms k ≡ cap_of (limit_at p k)

-- The cap has room, or there is none.
abbrev pub HasRoom : RoomsData → Option ℕ → Type 0
HasRoom rooms None = ⊤
HasRoom rooms (Some k) = 0 < room_at rooms k

-- There is a cap, and it has no room.
abbrev pub IsFull : RoomsData → Option ℕ → Type 0
IsFull rooms place = (k : ℕ) × (place ≡ Some k) × (k < length rooms.left) × (room_at rooms k ≡ 0)

-- The caps of product i are among those with rooms.
pub record HasCapsOf (rooms : RoomsData) (at : PlacesData) (i : ℕ) : Type 0 where
  pub product : i < length at.category
  pub total : IsBelow (length rooms.left) at.total
  pub category : IsBelow (length rooms.left) (category_place at i)

-- No cap is both the total cap and that of product i's category.
abbrev pub AreApart : RoomsData → PlacesData → ℕ → Type 0
AreApart rooms at i = (k : ℕ) → k < length rooms.left
    → cond (is_place at.total k) 1 0 + cond (is_place (category_place at i) k) 1 0 ≤ 1

-- Of the caps of product i one without room, or none where each has room.
abbrev pub IsFullCap : RoomsData → PlacesData → ℕ → Option ℕ → Type 0
IsFullCap rooms at i None = HasRoom rooms at.total × HasRoom rooms (category_place at i)
IsFullCap rooms at i (Some k) = (k < length rooms.left) × (room_at rooms k ≡ 0)
    × ((at.total ≡ Some k) ⊎ (category_place at i ≡ Some k))

-- One room less under each cap of product i, and the same cutoffs.
pub record IsTaken (before : RoomsData) (at : PlacesData) (i : ℕ) (after : RoomsData) : Type 0 where
  pub each : length after.left ≡ length before.left
  pub left : (k : ℕ) → k < length before.left
      → room_at before k ≡ room_at after k + (cond (is_place at.total k) 1 0 + cond (is_place (category_place at i) k) 1 0)
  pub cutoffs : after.cutoffs ≡ before.cutoffs

-- The cap at place k refused a product of this weight. Its cutoff is the weight, if it had none.
pub record HasRefused (before : RoomsData) (k weight : ℕ) (after : RoomsData) : Type 0 where
  pub left : after.left ≡ before.left
  pub cutoffs : after.cutoffs ≡ cond (cutoff_at before k == 0) (slice_set before.cutoffs k weight) before.cutoffs

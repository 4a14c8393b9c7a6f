-- Filling a node by rank: what is In, and then the candidates from the greatest weight down, each where its caps have room. Own.
use Rattle.std.specs.Prelude.{◌≡◌, ℕ, ◌<◌, ◌≤◌, ◌⊎◌, Bool, true, false, List, length, pos, ◌≤ℤ◌}
use lib.IntN.{ℤ}
use Rattle.offer_model.specs.declared.node.Mark.{Mark}
use Rattle.offer_model.specs.declared.node.Mark.TheVariants.{Open}
use Rattle.offer_model.specs.Assortments.{offers}
use Rattle.offer_model.specs.Problems.{ProblemData, product_count}
use Rattle.offer_model.specs.Nodes.{mark_at, Agrees}
use Rattle.linear_step.specs.Weights.{price_bound}
use Rattle.rank_step.specs.declared.candidates.Candidate.{Candidate}
use Rattle.rank_step.specs.Caps.{PlacesData, category_place}
use Rattle.rank_step.specs.Rooms.{RoomsData, AreRooms, AreTaken, room_at, cutoff_at, cutoff_of}
use Rattle.rank_step.specs.Candidates.{candidate_at}

-- The assortment completes the node and keeps to the caps. A cap with a cutoff has no room left, and no product that was
-- offered freely weighs less than a cutoff of its caps.
pub record IsFilling (p : ProblemData) (node : List Mark) (price : ℕ → ℤ) (at : PlacesData)
    (x : List Bool) (rooms : RoomsData) : Type 0 where
  pub each : length x ≡ product_count p
  pub agrees : (i : ℕ) → i < product_count p → Agrees (mark_at node i) (offers x i)
  pub kept : AreRooms p rooms
  pub taken : AreTaken p x (product_count p) rooms
  pub small : (k : ℕ) → cutoff_at rooms k ≤ price_bound
  pub spent : (k : ℕ) → 0 < cutoff_at rooms k → room_at rooms k ≡ 0
  pub earned : (i : ℕ) → i < product_count p → mark_at node i ≡ Open → offers x i ≡ true
      → (pos (cutoff_of rooms at.total) ≤ℤ price i) × (pos (cutoff_of rooms (category_place at i)) ≤ℤ price i)

-- The candidates from place k on have been gone through: those before weigh no more than what was offered or noted.
pub record IsPast (p : ProblemData) (node : List Mark) (price : ℕ → ℤ) (at : PlacesData)
    (list : List Candidate) (k : ℕ) (x : List Bool) (rooms : RoomsData) : Type 0 where
  pub above : (i q : ℕ) → i < product_count p → mark_at node i ≡ Open → offers x i ≡ true → q < k
      → pos (candidate_at list q).weight ≤ℤ price i
  pub high : (j q : ℕ) → 0 < cutoff_at rooms j → q < k → (candidate_at list q).weight ≤ cutoff_at rooms j
  pub refused : (q : ℕ) → k ≤ q → q < length list → offers x (candidate_at list q).product ≡ false
      → ((candidate_at list q).weight ≤ cutoff_of rooms at.total)
      ⊎ ((candidate_at list q).weight ≤ cutoff_of rooms (category_place at (candidate_at list q).product))

-- A filling to which nothing can be added: what is Open and isn't offered weighs no more than a cutoff of its caps.
pub record IsFilled (p : ProblemData) (node : List Mark) (price : ℕ → ℤ) (at : PlacesData)
    (x : List Bool) (rooms : RoomsData) : Type 0 where
  pub filling : IsFilling p node price at x rooms
  pub refused : (i : ℕ) → i < product_count p → mark_at node i ≡ Open → offers x i ≡ false
      → (price i ≤ℤ pos (cutoff_of rooms at.total)) ⊎ (price i ≤ℤ pos (cutoff_of rooms (category_place at i)))

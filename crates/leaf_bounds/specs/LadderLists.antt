-- The products of each ladder, and which list each product's ladder is. Own.
use Rattle.std.specs.Prelude.{◌≡◌, ℕ, ◌<◌, List, [], length, slice_index, slice_index_or}
use Rattle.std.specs.List.{All, Contains}
use Rattle.offer_model.specs.Problems.{ProblemData, product_count}
use Rattle.offer_model.specs.LeafBounds.{ladder_of}

-- Of the first n products the list has those of the ladder.
pub record Collects (p : ProblemData) (ladder n : ℕ) (list : List ℕ) : Type 0 where
  pub each : All (λ i. i < product_count p) list
  pub all : (i : ℕ) → i < n → ladder_of p i ≡ ladder → Contains list i

-- Each product of the ladder of product i stands in the list.
pub record IsLadderOf (p : ProblemData) (i : ℕ) (list : List ℕ) : Type 0 where
  pub inside : (q : ℕ) → q < length list → slice_index list q < product_count p
  pub all : (j : ℕ) → j < product_count p → ladder_of p j ≡ ladder_of p i
      → (q : ℕ) × (q < length list) × (slice_index list q ≡ j)

abbrev pub list_at : List (List ℕ) → ℕ → List ℕ
list_at lists k = slice_index_or lists k []

-- The list at this place is the ladder of product i.
pub record StandsAt (p : ProblemData) (lists : List (List ℕ)) (i place : ℕ) : Type 0 where
  pub inside : place < length lists
  pub is : IsLadderOf p i (list_at lists place)

-- Each of the first n products has the place of its ladder.
pub record HaveLadders (p : ProblemData) (n : ℕ) (lists : List (List ℕ)) (places : List ℕ) : Type 0 where
  pub each : length places ≡ n
  pub held : (i : ℕ) → i < n → StandsAt p lists i (slice_index places i)

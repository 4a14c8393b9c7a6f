-- The products of one ladder, as a list. Own.
use Rattle.std.specs.Prelude.{◌≡◌, ℕ, ◌<◌, ◌≤◌, List, length}
use Rattle.std.specs.List.{All, Contains}
use Rattle.offer_model.specs.Problems.{ProblemData, product_count}
use Rattle.offer_model.specs.LeafBounds.{ladder_of}

-- Of the first n products the list has those of the ladder.
pub record Collects (p : ProblemData) (ladder n : ℕ) (list : List ℕ) : Type 0 where
  pub few : length list ≤ n
  pub each : All (λ i. (i < product_count p) × (ladder_of p i ≡ ladder)) list
  pub all : (i : ℕ) → i < n → ladder_of p i ≡ ladder → Contains list i

-- The products of an assortment that stand on one ladder. Own.
use Rattle.std.specs.Prelude.{◌≡◌, ◌≢◌, ℕ, ◌<◌, Bool, IsTrue, List}
use Rattle.offer_model.specs.Assortments.{offers}
use Rattle.offer_model.specs.Problems.{ProblemData, product_count, product_at}
use Rattle.offer_model.specs.Limits.{MayStand}

-- Product i is offered, and is on the ladder.
abbrev pub StandsOnLadder : ProblemData → List Bool → ℕ → ℕ → Type 0
StandsOnLadder p x l i = IsTrue (offers x i) × ((product_at p i).ladder ≡ l)

-- Product i may be offered together with each other product that stands on the ladder.
abbrev pub FitsOnLadder : ProblemData → List Bool → ℕ → ℕ → Type 0
FitsOnLadder p x l i = (j : ℕ) → j < product_count p → j ≢ i → StandsOnLadder p x l j
    → MayStand (product_at p i) (product_at p j)

-- Rows of the table over products and space. Own.
use Rattle.std.specs.Prelude.{◌≡◌, ℕ, ◌<◌, List, length, Option, Some, None, slice_index_or}
use lib.IntN.{ℤ}
use Rattle.offer_model.specs.declared.node.Mark.{Mark}
use Rattle.offer_model.specs.Problems.{ProblemData}
use Rattle.offer_model.specs.LeafBounds.{best_in_space}
use Rattle.linear_step.specs.Weights.{IsWithin}

-- The cell of an amount of space.
abbrev pub cell : List (Option ℤ) → ℕ → Option ℤ
cell row room = slice_index_or row room None

-- The row of the products below k: in each amount of space the best that they bring.
abbrev pub IsRow : ProblemData → List Mark → (ℕ → ℤ) → ℕ → List (Option ℤ) → Type 0
IsRow p marks price k row = (room : ℕ) → room < length row → cell row room ≡ best_in_space p marks price k room

-- The sum, where there is one, is less than m in size.
abbrev pub IsSmall : ℕ → Option ℤ → Type 0
IsSmall m None = Unit {0}
IsSmall m (Some z) = IsWithin m z

-- What contracts see of the rule of a search, and of its sums. Own.
use Rattle.std.specs.Prelude.{◌≡◌, ℕ, ◌<◌, ◌⊎◌, Bool, List}
use Rattle.offer_model.specs.declared.node.Mark.{Mark}
use Rattle.offer_model.specs.Nodes.{ComesAfter}
use Rattle.offer_model.specs.Problems.{ProblemData}

-- The problem and its best assortment.
pub record SearchData : Type 0 where
  pub problem : ProblemData
  pub best : List Bool

-- A sum of segments' numbers is below what x brings, or is as much where ties go to x.
abbrev pub SumCloses : ℕ → ℕ → List Bool → List Mark → Type 0
SumCloses sum value x node = (sum < value) ⊎ ((sum ≡ value) × ComesAfter node x)

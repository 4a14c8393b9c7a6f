-- What a step answers: a feasible completion that no other outweighs. Own.
use Rattle.std.specs.Prelude.{Bool, List, Option, Some, None, ◌≤ℤ◌, ◌<ℤ◌}
use lib.IntN.{ℤ}
use Rattle.offer_model.specs.declared.node.Mark.{Mark}
use Rattle.offer_model.specs.Problems.{ProblemData}
use Rattle.offer_model.specs.Limits.{IsFeasible}
use Rattle.offer_model.specs.Nodes.{Completes}
use Rattle.offer_model.specs.Prices.{Prices, worth_of}

-- A feasible completion of the node, and no other is worth more at these prices.
pub record IsGreatest (p : ProblemData) (at : Prices) (node : List Mark) (x : List Bool) : Type 0 where
  pub feasible : IsFeasible p x
  pub completes : Completes node x
  pub most : (y : List Bool) → IsFeasible p y → Completes node y → worth_of p at y ≤ℤ worth_of p at x

-- The node has no feasible completion.
abbrev pub HasNone : ProblemData → List Mark → Type 0
HasNone p node = (y : List Bool) → IsFeasible p y → Completes node y → ⊥

-- A completion of greatest worth, or none where there is none.
abbrev pub Answers : ProblemData → Prices → List Mark → Option (List Bool) → Type 0
Answers p at node (Some x) = IsGreatest p at node x
Answers p at node None = HasNone p node

-- No feasible completion of the node is worth the floor.
abbrev pub HasNoneFrom : ProblemData → Prices → List Mark → ℤ → Type 0
HasNoneFrom p at node floor = (y : List Bool) → IsFeasible p y → Completes node y → worth_of p at y <ℤ floor

-- A completion of greatest worth where one is worth the floor, else none.
abbrev pub AnswersFrom : ProblemData → Prices → List Mark → ℤ → Option (List Bool) → Type 0
AnswersFrom p at node floor (Some x) = IsGreatest p at node x × (floor ≤ℤ worth_of p at x)
AnswersFrom p at node floor None = HasNoneFrom p at node floor

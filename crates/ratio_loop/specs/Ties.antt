-- Completions of a node that earn a given revenue. Own.
use Rattle.std.specs.Prelude.{Bool, List, Option, Some, None}
use Rattle.offer_model.specs.declared.node.Mark.{Mark}
use Rattle.offer_model.specs.declared.products.Fraction.{Fraction}
use Rattle.offer_model.specs.Problems.{ProblemData}
use Rattle.offer_model.specs.Limits.{IsFeasible}
use Rattle.offer_model.specs.Nodes.{Completes}
use Rattle.ratio_loop.specs.Earnings.{Earns}

-- A feasible completion of the node that earns this revenue.
pub record IsCompletionAt (p : ProblemData) (at : Fraction) (node : List Mark) (x : List Bool) : Type 0 where
  pub feasible : IsFeasible p x
  pub completes : Completes node x
  pub earns : Earns p x at

-- Such a completion, or none where there is none.
abbrev pub AnswersAt : ProblemData → Fraction → List Mark → Option (List Bool) → Type 0
AnswersAt p at node (Some x) = IsCompletionAt p at node x
AnswersAt p at node None = (x : List Bool) → IsCompletionAt p at node x → ⊥

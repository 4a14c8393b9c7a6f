-- The trees of searches of problems, as trees of a rule. Own.
use Rattle.std.specs.Prelude.{◌≡◌, ℕ, ◌⊎◌, Bool, List, []}
use Rattle.offer_model.specs.declared.node.Mark.{Mark}
use Rattle.offer_model.specs.Problems.{ProblemData}
use Rattle.offer_model.specs.Nodes.{Clashes}
use Rattle.proof_lines.specs.declared.line.Shape.TheVariants as S
use Rattle.proof_lines.specs.Lines.{line_text}
use Rattle.proof_lines.specs.Closing.{Closes}
use Rattle.proof_lines.specs.Writing.{Rule}

-- At a node `x` where it clashes; else the rule's leaf where that closes.
abbrev pub SearchLeaf : ProblemData → List Bool → Rule → List Mark → List ℕ → Type 0
SearchLeaf p x rule node l = (Clashes p node × (l ≡ line_text S.Clash []))
    ⊎ (¬ Clashes p node × ((us : List ℕ) × (l ≡ line_text rule.shape us) × rule.HasNumbers node us × Closes p x node rule.shape us))

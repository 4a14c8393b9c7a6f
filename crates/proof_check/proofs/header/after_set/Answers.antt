use Rattle.std.proofs.Common.{◌≡◌, ◌∙◌, sym, subst, inr, refl, Bool, false, IsTrue}
use Rattle.offer_model.specs.Limits.{IsFeasible}
use Rattle.proof_lines.proofs.ProofsDiffer.{digits_of-one}
use Rattle.proof_check.proofs.header.after_set.Goals as goal

pub returns-else-judge_by-clause-set : goal.returns-else-judge_by-clause-set
returns-else-judge_by-clause-set c = inr (
  λ y e n f. untrue _ c.if-judge_by.false (c.judge_by.ensures.feasible.1
      (subst (λ z. IsFeasible c.args.leaves.now.problem z) (digits_of-one y c.judge_by.new.self.set (sym n ∙ sym c.judge_by.ensures.set)) f)),
  refl,
)
  where
    untrue : (b : Bool) → b ≡ false → IsTrue b → ⊥
    untrue b e t = cc

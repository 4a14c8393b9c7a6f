use Rattle.std.proofs.Common.{refl, arith}
use Rattle.offer_model.proofs.CompletionLemmas.{Completes-agrees, Completes-from_marks}
use Rattle.several_step.proofs.WeightLemmas.{agrees_at}
use Rattle.several_step.proofs.weights_goal.completes.Goals as goal

pub returns-then-not-agrees : goal.returns-then-not-agrees
returns-then-not-agrees c = (
  λ f. cc,
  λ k.
      let yes = c.agrees.ensures.1 (agrees_at _ _ _ _ c.mark.ensures c.offers.ensures (Completes-agrees c.args.node.now c.args.x.now k c.loop-i.i)) in
      let no = c.if-not-agrees.true in
      cc,
)

pub returns : goal.returns
returns c = (λ t. Completes-from_marks c.args.node.now c.args.x.now (omega arith) (λ i l. c.loop-i.invariant i (omega arith)), λ k. refl)

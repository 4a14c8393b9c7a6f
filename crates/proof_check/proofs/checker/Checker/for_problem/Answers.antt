use Rattle.proof_check.proofs.AcceptedLemmas.{first_awaits}
use Rattle.proof_check.proofs.checker.Checker.for_problem.Goals as goal

pub returns : goal.returns
returns c = λ r.
    let first = c.in_ok-feeder.ensures.first r in
    let new = c.in_ok-machine.ensures in
    let text = first_awaits c.args.p.now c.in_ok-machine.machine new.valid new.problem new.head new.tree r in
    (λ t. text.0 (first.0 t), λ k. first.1 (text.1 k))

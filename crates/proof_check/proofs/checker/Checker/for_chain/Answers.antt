use Rattle.proof_check.proofs.checker.Checker.for_chain.Goals as goal

pub returns : goal.returns
returns c = λ r.
    let first = c.in_ok-feeder.ensures.first r in
    let text = c.in_ok-machine.ensures r in
    (λ t. text.0 (first.0 t), λ k. first.1 (text.1 k))

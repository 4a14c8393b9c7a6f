use Rattle.proof_check.proofs.LeafLemmas.{none_broken}
use Rattle.proof_check.proofs.claim.is_feasible.Goals as goal

pub returns : goal.returns
returns c = none_broken c.args.p.now c.args.x.now c.first_broken.result c.is_none.result c.is_none.ensures c.first_broken.ensures

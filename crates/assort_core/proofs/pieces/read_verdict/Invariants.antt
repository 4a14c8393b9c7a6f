use Rattle.std.proofs.Common.{◌-◌}
use Rattle.proof_check.specs.Waiting.{Takes}
use Rattle.assort_core.proofs.PieceLemmas.{IsFeeding}
use Rattle.assort_core.proofs.pieces.read_verdict.Given as goal

abbrev pub invariant-pieces : goal.invariant-pieces
invariant-pieces g l = IsFeeding (Takes l.fn.checker) (g.S.Store.view l.fn.store) l.name l.most (Takes l.checker) l.taken (g.S.Store.view l.store)

abbrev pub decreases-pieces : goal.decreases-pieces
decreases-pieces g l = l.most - l.taken

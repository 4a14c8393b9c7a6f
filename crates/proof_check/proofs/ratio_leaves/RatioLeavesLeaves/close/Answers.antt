use Rattle.std.proofs.Common.{subst, IsTrue, ◌↔◌}
use Rattle.proof_tree.specs.Trees.{IsRead}
use Rattle.proof_tree.specs.LineLeaves.{LeafCloses}
use Rattle.proof_check.specs.Judging.{LeavesData}
use Rattle.proof_tree.proofs.LineLeafLemmas.{leaf_read}
use Rattle.proof_check.proofs.ratio_leaves.RatioLeavesLeaves.close.Goals as goal

pub returns-in-Some-clause-closes : goal.returns-in-Some-clause-closes
returns-in-Some-clause-closes c =
    let read = subst (λ z. IsRead c.args._line.now z c.args.numbers.now.items) c.in-Some.is c.requires.read in
    let own = leaf_read c.self.inside.problem c.self.inside.set c.args.node.now c.args._line.now c.in-Some.shape c.args.numbers.now.items read in
    subst (λ (z : LeavesData). IsTrue c.close.result ↔ LeafCloses z.problem z.set c.args.node.now c.args._line.now) c.self.view_is
    (λ t. own.0 (c.close.ensures.closes.0 t), λ k. c.close.ensures.closes.1 (own.1 k))

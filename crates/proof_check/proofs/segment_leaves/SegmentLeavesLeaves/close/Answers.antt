use Rattle.std.proofs.Common.{◌≡◌, ◌↔◌, sym, subst, Bool, false, IsTrue}
use Rattle.proof_tree.specs.Trees.{IsRead}
use Rattle.proof_tree.specs.LineLeaves.{LeafCloses}
use Rattle.proof_tree.proofs.LineLeafLemmas.{leaf_read, leaf_unread}
use Rattle.proof_check.specs.Judging.{LeavesData}
use Rattle.proof_check.proofs.segment_leaves.SegmentLeavesLeaves.close.Goals.{in-Some, in-None}
use Rattle.proof_check.proofs.segment_leaves.SegmentLeavesLeaves.close.Goals as goal

untrue : (b : Bool) → b ≡ false → IsTrue b → ⊥
untrue b e t = cc

pub returns-clause-closes : goal.returns-clause-closes
returns-clause-closes c =
    let p = c.self.inside.problem in
    let x = c.self.inside.set in
    subst (λ (z : LeavesData). IsTrue c.match-shape.result ↔ LeafCloses z.problem z.set c.args.node.now c.args._line.now) c.self.view_is
    (elim c.match-shape.branch as (λ _. IsTrue c.match-shape.result ↔ LeafCloses p x c.args.node.now c.args._line.now) [
      | in-Some w ↦
          let read = subst (λ z. IsRead c.args._line.now z c.args.numbers.now.items) w.in-Some.is c.requires.read in
          let own = leaf_read p x c.args.node.now c.args._line.now w.in-Some.shape c.args.numbers.now.items read in
          (λ t. own.0 (w.close.ensures.closes.0 (subst IsTrue w.result-is t)), λ k. subst IsTrue (sym w.result-is) (w.close.ensures.closes.1 (own.1 k)))
      | in-None w ↦
          let read = subst (λ z. IsRead c.args._line.now z c.args.numbers.now.items) w.in-None.is c.requires.read in
          (λ t. absurd (untrue c.match-shape.result w.result-is t), λ k. absurd (leaf_unread p x c.args.node.now c.args._line.now c.args.numbers.now.items read k))
    ])

use Rattle.std.proofs.Common.{◌≡◌, subst, IsTrue, Bool, false}
use Rattle.proof_tree.specs.Trees.{IsRead}
use Rattle.proof_tree.proofs.TreeLemmas.{end_leads, branch_leads, leaf_leads, single, not_done}
use Rattle.proof_tree.proofs.progress.TreeProgress.take_tree.Goals as goal

pub returns-then-is_done-clause-leads : goal.returns-then-is_done-clause-leads
returns-then-is_done-clause-leads g c =
    rw c.requires.stage (end_leads (g.L.Leaves.Closes c.args.leaves.now) c.args.self.now.path.nodes c.args.line.now c.args.shape c.args.numbers.now.items _ (c.is_done.ensures.0 c.if-is_done.true) c.requires.read c.take_end.ensures.leads)

pub returns-then-is_branch-clause-leads : goal.returns-then-is_branch-clause-leads
returns-then-is_branch-clause-leads g c =
    let read = subst (λ z. IsRead c.args.line.now z c.args.numbers.now.items) (c.is_branch.ensures.0 c.if-is_branch.true) c.requires.read in
    rw c.requires.stage (branch_leads (g.L.Leaves.Closes c.args.leaves.now) c.args.self.now.path.nodes c.args.line.now c.args.numbers.now.items c.get-number.result.now _
    (g.met.L.Leaves.no_branch c.args.leaves.now) (not_done _ _ c.if-is_done.false c.is_done.ensures.1) read (single _ _ read.found.0 c.get-number.ensures) c.take_branch.ensures.leads)

pub returns-clause-leads : goal.returns-clause-leads
returns-clause-leads g c =
    rw c.requires.stage (leaf_leads (g.L.Leaves.Closes c.args.leaves.now) c.args.self.now.path.nodes c.args.line.now c.args.shape c.args.numbers.now.items _
    (not_done _ _ c.if-is_done.false c.is_done.ensures.1) c.requires.read (λ e. untrue _ c.if-is_branch.false (c.is_branch.ensures.1 e)) c.take_leaf.ensures.leads)
  where
    untrue : (b : Bool) → b ≡ false → IsTrue b → ⊥
    untrue b e t = cc

use Rattle.std.proofs.Common.{◌≡◌, ℕ, ◌↔◌, refl, subst}
use Rattle.offer_model.specs.declared.node.Mark.TheVariants.{Open}
use Rattle.offer_model.specs.Nodes.{mark_at}
use Rattle.proof_tree.specs.Paths.{first_of}
use Rattle.proof_tree.specs.Rules.{SaysLeaf}
use Rattle.proof_tree.proofs.StandLemmas.{stands_here, sides_stand}
use Rattle.proof_tree.proofs.RuleLemmas.{goes_leaf, goes_branch}
use Rattle.proof_tree.proofs.write.put_node.Goals as goal

pub put_leaf-requires-clause-stands : goal.put_leaf-requires-clause-stands
put_leaf-requires-clause-stands g c =
    let L = g.R.TreeRule.LeafOf c.args.rule.now in
    let B = g.R.TreeRule.BranchesOn c.args.rule.now in
    rw c.node.ensures.node (stands_here L B (g.R.TreeRule.products c.args.rule.now) c.frames-depth.result c.args.path.now.nodes c.requires.node c.requires.own c.frames-depth.ensures.depth)

pub branch-i-requires-clause-stands : goal.branch-i-requires-clause-stands
branch-i-requires-clause-stands g c =
    let n = g.R.TreeRule.products c.args.rule.now in
    let depth = c.frames-depth.result in
    let here = stands_here (g.R.TreeRule.LeafOf c.args.rule.now) (g.R.TreeRule.BranchesOn c.args.rule.now) n depth c.args.path.now.nodes c.requires.node c.requires.own c.frames-depth.ensures.depth in
    rw (c.put_leaf.ensures.same, c.node-else-put_leaf.ensures.node) here

pub returns-else-put_leaf-clause-own : goal.returns-else-put_leaf-clause-own
returns-else-put_leaf-clause-own g c =
    let L = g.R.TreeRule.LeafOf c.args.rule.now in
    let B = g.R.TreeRule.BranchesOn c.args.rule.now in
    let nodes = c.args.path.now.nodes in
    let i = c.branch-i.result in
    let says = subst (λ z. SaysLeaf (L z) c.put_leaf.new.self c.put_leaf.result) c.node.ensures.node c.put_leaf.ensures.leaf in
    let no = subst (λ b. SaysLeaf (L (first_of nodes)) c.put_leaf.new.self b) c.if-put_leaf.false says in
    let here = c.node-else-put_leaf.ensures.node in
    let o = subst (λ z. mark_at z i ≡ Open) here c.branch-i.ensures.«open» in
    let own = subst (λ r. g.R.TreeRule.BranchesOn r c.node-else-put_leaf.result.now i) c.put_leaf.ensures.same ((c.branch-i.ensures.only i).1 refl) in
    rw c.branch-path.ensures.nodes (sides_stand L B (g.R.TreeRule.products c.args.rule.now) i nodes c.requires.node c.requires.own no.1 (subst (λ z. B z i) here own) o)

pub returns-then-put_leaf-clause-on : goal.returns-then-put_leaf-clause-on
returns-then-put_leaf-clause-on g c =
    let L = g.R.TreeRule.LeafOf c.args.rule.now in
    let says = subst (λ z. SaysLeaf (L z) c.put_leaf.new.self c.put_leaf.result) c.node.ensures.node c.put_leaf.ensures.leaf in
    let yes = subst (λ b. SaysLeaf (L (first_of c.args.path.now.nodes)) c.put_leaf.new.self b) c.if-put_leaf.true says in
    rw c.close.ensures.nodes (goes_leaf L (g.R.TreeRule.BranchesOn c.args.rule.now) c.args.path.now.nodes c.put_leaf.new.self c.requires.node yes)

pub returns-else-put_leaf-clause-on : goal.returns-else-put_leaf-clause-on
returns-else-put_leaf-clause-on g c =
    let L = g.R.TreeRule.LeafOf c.args.rule.now in
    let B = g.R.TreeRule.BranchesOn c.args.rule.now in
    let nodes = c.args.path.now.nodes in
    let i = c.branch-i.result in
    let says = subst (λ z. SaysLeaf (L z) c.put_leaf.new.self c.put_leaf.result) c.node.ensures.node c.put_leaf.ensures.leaf in
    let no = subst (λ b. SaysLeaf (L (first_of nodes)) c.put_leaf.new.self b) c.if-put_leaf.false says in
    let here = c.node-else-put_leaf.ensures.node in
    let o = subst (λ z. mark_at z i ≡ Open) here c.branch-i.ensures.«open» in
    let own = subst (λ r. (j : ℕ) → g.R.TreeRule.BranchesOn r c.node-else-put_leaf.result.now j ↔ (j ≡ i)) c.put_leaf.ensures.same c.branch-i.ensures.only in
    let only = subst (λ z. (j : ℕ) → B z j ↔ (j ≡ i)) here own in
    rw (c.branch-path.ensures.nodes, c.put_branch.ensures) (goes_branch L B nodes i c.requires.node no.1 o only)

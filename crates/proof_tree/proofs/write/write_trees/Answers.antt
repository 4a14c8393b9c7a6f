use Rattle.std.proofs.Common.{◌∙◌, refl, sym, subst}
use Rattle.proof_tree.specs.Feeding.{joined}
use Rattle.proof_tree.specs.Rules.{GoesOn, AreOfTree}
use Rattle.proof_tree.proofs.PutLemmas.{none_so_far}
use Rattle.proof_tree.proofs.RuleLemmas.{one_more, no_more}
use Rattle.proof_tree.proofs.write.write_trees.Goals as goal

pub nodes-init : goal.nodes-init
nodes-init g c = record {
  same = refl;
  each = c.requires.each;
  own = c.requires.own;
  writing = c.requires.output;
  lines = λ ls h. (ls, h, none_so_far (g.S.Store.view c.args.store.now) (joined ls) c.requires.output);
}

pub put_node-requires-clause-own : goal.put_node-requires-clause-own
put_node-requires-clause-own g c =
    let held = c.nodes.invariant in
    subst (λ r. AreOfTree (g.R.TreeRule.LeafOf r) (g.R.TreeRule.BranchesOn r) (g.R.TreeRule.products r) c.nodes.path.nodes) (sym held.same) held.own

pub nodes-preserved : goal.nodes-preserved
nodes-preserved g c =
    let held = c.nodes.invariant in
    let on = subst (λ r. GoesOn (g.R.TreeRule.LeafOf r) (g.R.TreeRule.BranchesOn r) c.nodes.path.nodes c.put_node.new.path.nodes c.put_node.new.pen) held.same c.put_node.ensures.on in
    record {
      same = c.put_node.ensures.same ∙ held.same;
      each = c.put_node.ensures.each ∙ held.each;
      own = subst (λ r. AreOfTree (g.R.TreeRule.LeafOf r) (g.R.TreeRule.BranchesOn r) (g.R.TreeRule.products r) c.put_node.new.path.nodes) held.same c.put_node.ensures.own;
      writing = c.send.ensures.writing;
      lines = λ ls h. one_more (g.R.TreeRule.LeafOf c.args.rule.now) (g.R.TreeRule.BranchesOn c.args.rule.now) _ _ _ ls c.nodes.path.nodes c.put_node.new.path.nodes c.put_node.new.pen on
          (held.lines ls h) c.in_ok-send.ensures;
    }

pub returns-in_err-send-clause-lines : goal.returns-in_err-send-clause-lines
returns-in_err-send-clause-lines g c ls h =
    let held = c.nodes.invariant in
    let on = subst (λ r. GoesOn (g.R.TreeRule.LeafOf r) (g.R.TreeRule.BranchesOn r) c.nodes.path.nodes c.put_node.new.path.nodes c.put_node.new.pen) held.same c.put_node.ensures.on in
    no_more (g.R.TreeRule.LeafOf c.args.rule.now) (g.R.TreeRule.BranchesOn c.args.rule.now) _ _ _ ls c.nodes.path.nodes c.put_node.new.path.nodes c.put_node.new.pen
    _ c.from_residual.result c.from_residual.ensures.0 on (held.lines ls h) c.in_err-send.ensures

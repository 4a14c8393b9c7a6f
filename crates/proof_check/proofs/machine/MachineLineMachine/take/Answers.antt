use Rattle.std.proofs.Common.{◌≡◌, rules}
use Rattle.proof_tree.specs.Stages.{phase_of}
use Rattle.proof_check.specs.declared.header.Head.TheVariants as H
use Rattle.proof_check.proofs.HeaderLemmas.{tree_step, head_step}
use Rattle.proof_check.proofs.machine.MachineLineMachine.take.Goals as goal

pub returns-then-eq : goal.returns-then-eq
returns-then-eq c =
    let head : c.self.inside.head ≡ H.Tree = search rules in
    tree_step c.args.self.now c.self.inside.head c.self.inside.leaves c.take.new.leaves _ _ c.args.line.now c.self.view_is head c.take.ensures.same c.take.ensures.leads

pub returns : goal.returns
returns c = head_step c.args.self.now c.self.inside.head c.after-self-inside.result c.self.inside.leaves c.after-self-inside.new.leaves (phase_of c.self.inside.tree) c.args.line.now c.self.view_is
    c.after-self-inside.ensures.problem (c.after-self-inside.ensures.leads (phase_of c.self.inside.tree))

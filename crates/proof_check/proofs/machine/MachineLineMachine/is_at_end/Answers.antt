use Rattle.std.proofs.Common.{◌≡◌, rules}
use Rattle.proof_check.specs.declared.header.Head.TheVariants as H
use Rattle.proof_check.proofs.HeaderLemmas.{machine_ends}
use Rattle.proof_check.proofs.machine.MachineLineMachine.is_at_end.Goals as goal

pub returns-then-eq : goal.returns-then-eq
returns-then-eq c =
    let head : c.self.inside.head ≡ H.Tree = search rules in
    let ends = machine_ends c.args.self.now c.self.inside.head c.self.inside.leaves _ c.self.view_is head in
    (λ t. ends.0 (c.is_at_end.ensures.0 t), λ t. c.is_at_end.ensures.1 (ends.1 t))

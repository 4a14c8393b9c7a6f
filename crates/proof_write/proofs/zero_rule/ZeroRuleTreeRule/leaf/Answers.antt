use Rattle.std.proofs.Common.{arith}
use Rattle.proof_write.proofs.ZeroRuleLemmas.{zeros_short}
use Rattle.proof_write.proofs.zero_rule.ZeroRuleTreeRule.leaf.Goals as goal

pub print_line-requires-then-closes-clause-room : goal.print_line-requires-then-closes-clause-room
print_line-requires-then-closes-clause-room c =
    let short = zeros_short c.self.inside.problem.now c.self.inside.zeros c.self.invariant.valid c.self.invariant.zeros_line in
    omega (arith, c.requires.room)

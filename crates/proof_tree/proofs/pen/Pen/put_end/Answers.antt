use Rattle.std.proofs.Common.{arith}
use Rattle.proof_tree.proofs.pen.Pen.put_end.Goals as goal

pub print_line-requires-clause-room : goal.print_line-requires-clause-room
print_line-requires-clause-room c = omega (arith, c.clear.ensures.spare, c.self.invariant.text_fits)

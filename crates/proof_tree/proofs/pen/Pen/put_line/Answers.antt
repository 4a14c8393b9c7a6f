use Rattle.std.proofs.Common.{arith}
use Rattle.proof_lines.proofs.ShortLines.{line_short}
use Rattle.proof_tree.proofs.pen.Pen.put_line.Goals as goal

pub print_line-requires-clause-room : goal.print_line-requires-clause-room
print_line-requires-clause-room c =
    let short = line_short c.args.line.now.shape c.args.line.now.numbers.items c.requires.line c.requires.few in
    omega (arith, c.clear.ensures.spare, c.self.invariant.text_fits)

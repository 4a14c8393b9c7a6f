use Rattle.proof_lines.proofs.ReadLemmas.{no_line}
use Rattle.proof_lines.proofs.read.read_line.Goals as goal

pub returns-clause-none : goal.returns-clause-none
returns-clause-none c = no_line c.args.bytes.now c.shape_of-shape.result c.read_shape.new.numbers.items c.shape_of-shape.ensures c.if-read_shape.ensures.reads

use Rattle.proof_lines.proofs.ReadLemmas.{no_digit}
use Rattle.proof_lines.proofs.read.read_digits.Goals as goal

pub returns-then-byte-ne49-clause-reads : goal.returns-then-byte-ne49-clause-reads
returns-then-byte-ne49-clause-reads c = λ ms a e. no_digit ms c.args.bytes.now c.loop-byte.byte-index c.loop-byte-test.true c.if-byte-ne48.true c.if-byte-ne49.true a e

use Rattle.proof_lines.proofs.WrittenOnce.{written_once}
use Rattle.proof_lines.proofs.laws.searches_write_once.Goals as goal

pub returns : goal.returns
returns c = written_once

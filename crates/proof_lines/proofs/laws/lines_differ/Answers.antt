use Rattle.proof_lines.proofs.LinesDiffer.{one_spelling}
use Rattle.proof_lines.proofs.laws.lines_differ.Goals as goal

pub returns : goal.returns
returns c = one_spelling

use Rattle.proof_lines.proofs.ShortLines.{accepted_lines_are_short}
use Rattle.proof_lines.proofs.laws.accepted_lines_are_short.Goals as goal

pub returns : goal.returns
returns c = accepted_lines_are_short

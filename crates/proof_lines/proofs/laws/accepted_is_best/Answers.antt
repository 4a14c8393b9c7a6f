use Rattle.proof_lines.proofs.AcceptedIsBest.{accepted_is_best}
use Rattle.proof_lines.proofs.laws.accepted_is_best.Goals as goal

pub returns : goal.returns
returns c = accepted_is_best

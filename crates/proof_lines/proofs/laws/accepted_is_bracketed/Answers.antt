use Rattle.proof_lines.proofs.AcceptedIsBracketed.{accepted_is_bracketed}
use Rattle.proof_lines.proofs.laws.accepted_is_bracketed.Goals as goal

pub returns : goal.returns
returns c = accepted_is_bracketed

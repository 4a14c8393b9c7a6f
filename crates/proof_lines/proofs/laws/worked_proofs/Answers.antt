use Rattle.proof_lines.proofs.WorkedProofs.{worked_proofs}
use Rattle.proof_lines.proofs.laws.worked_proofs.Goals as goal

pub returns : goal.returns
returns c = worked_proofs

use Rattle.proof_lines.proofs.ProofsDiffer.{proofs_differ}
use Rattle.proof_lines.proofs.laws.proofs_differ.Goals as goal

pub returns : goal.returns
returns c = proofs_differ

use Rattle.proof_lines.proofs.ProofsDiffer.{chain_proofs_differ}
use Rattle.proof_lines.proofs.laws.chain_proofs_differ.Goals as goal

pub returns : goal.returns
returns c = chain_proofs_differ

use Rattle.proof_lines.proofs.WrittenOnce.{written_chain_once}
use Rattle.proof_lines.proofs.laws.chains_write_once.Goals as goal

pub returns : goal.returns
returns c = written_chain_once

use Rattle.proof_lines.proofs.WrittenOnce.{few_branches}
use Rattle.proof_lines.proofs.laws.paths_are_short.Goals as goal

pub returns : goal.returns
returns c = few_branches

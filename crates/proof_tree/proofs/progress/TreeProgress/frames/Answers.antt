use Rattle.proof_tree.proofs.StageLemmas.{BranchesOpen-from_path}
use Rattle.proof_tree.proofs.progress.TreeProgress.frames.Goals as goal

pub returns-clause-branches : goal.returns-clause-branches
returns-clause-branches c = BranchesOpen-from_path c.args.self.now.stage c.args.self.now.path.nodes c.frames.result c.frames.ensures.depth

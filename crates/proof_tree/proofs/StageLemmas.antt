-- How many branches are open, as a reader of trees holds them.
use Rattle.std.proofs.Common.{◌≡◌, ℕ, ◌+◌, List, length}
use Rattle.offer_model.specs.declared.node.Mark.{Mark}
use Rattle.offer_model.specs.Nodes.{opens}
use Rattle.proof_tree.specs.Paths.{first_of}
use Rattle.proof_tree.specs.Stages.{BranchesOpen, phase_at}
use Rattle.proof_tree.specs.declared.progress.Stage.{Stage}
use Rattle.proof_tree.specs.declared.progress.Stage.TheVariants as T

-- As many branches are open as the path has.
pub BranchesOpen-from_path : (stage : Stage) (nodes : List (List Mark)) (k : ℕ) → k + opens (first_of nodes) ≡ length (first_of nodes) → BranchesOpen (phase_at stage nodes) k
BranchesOpen-from_path T.Tree nodes k e = e
BranchesOpen-from_path T.End nodes k e = tt
BranchesOpen-from_path T.Refused nodes k e = tt

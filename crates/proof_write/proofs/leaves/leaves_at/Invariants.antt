use Rattle.std.proofs.Common.{◌≡◌, ℕ, ◌<◌, ◌≤◌, ◌+◌, length}
use Rattle.std.specs.Prelude.{◌↔◌, vec_capacity}
use Rattle.offer_model.specs.Problems.{ProblemData}
use Rattle.linear_step.specs.Weights.{prices_of}
use Rattle.proof_tree.specs.Pens.{lines_data}
use Rattle.proof_write.specs.Leaves.{path_node, side_node, leaf_at, Says}
use Rattle.proof_write.proofs.leaves.leaves_at.Given as goal

abbrev pub invariant-loop-k : goal.invariant-loop-k
invariant-loop-k g l = record {
  node : l.node ≡ path_node l.x l.k;
  each : length l.leaves.items ≡ l.k;
  sides : (k : ℕ) → k < l.k → Says l.p (prices_of l.weights) (side_node l.x k) (leaf_at (lines_data l.leaves.items) k);
  room : l.end + 1 ≤ vec_capacity l.leaves;
  fits : (q : ProblemData) → g.C.Closer.fits l.fn.step q ↔ g.C.Closer.fits l.step q;
}

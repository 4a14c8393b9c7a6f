use Rattle.std.proofs.Common.{◌≡◌, ℕ, ◌<◌, false, length, get_or}
use Rattle.offer_model.specs.Problems.{product_count}
use Rattle.offer_model.specs.Nodes.{mark_at}
use Rattle.linear_step.specs.Weights.{weight_at}
use Rattle.rank_step.specs.Free.{takes}
use Rattle.rank_step.proofs.free.take_all.Given as goal

abbrev pub invariant-loop-i : goal.invariant-loop-i
invariant-loop-i l = record {
  each : length l.x ≡ product_count l.p;
  below : (k : ℕ) → k < l.i → get_or l.x k false ≡ takes (mark_at l.node k) (weight_at l.weights k);
}

use Rattle.std.proofs.Common.{◌≡◌, ℕ, ◌<◌, length}
use Rattle.offer_model.specs.Assortments.{offers}
use Rattle.offer_model.specs.Problems.{product_count}
use Rattle.offer_model.specs.LeafBounds.{is_limited, ladder_of}
use Rattle.offer_model.specs.Nodes.{mark_at}
use Rattle.linear_step.specs.Weights.{weight_at}
use Rattle.table_steps.specs.LadderChoices.{takes}
use Rattle.table_steps.proofs.ladder_choice.take_beside.Given as goal

abbrev pub invariant-loop-i : goal.invariant-loop-i
invariant-loop-i l = record {
  each : length l.x ≡ product_count l.p;
  below : (k : ℕ) → k < l.i → offers l.x k ≡ takes (mark_at l.node k) (is_limited l.p.limits (ladder_of l.p k)) (weight_at l.weights k);
}

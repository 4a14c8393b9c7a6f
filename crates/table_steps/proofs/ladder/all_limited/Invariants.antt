use Rattle.std.proofs.Common.{◌≡◌, ℕ, ◌<◌, false, length}
use Rattle.std.specs.Prelude.{slice_index_or}
use Rattle.offer_model.specs.Problems.{product_count}
use Rattle.offer_model.specs.LeafBounds.{is_limited, ladder_of}
use Rattle.table_steps.proofs.ladder.all_limited.Given as goal

abbrev pub invariant-loop-i : goal.invariant-loop-i
invariant-loop-i l = record {
  each : length l.limited.items ≡ product_count l.p;
  below : (k : ℕ) → k < l.i → slice_index_or l.limited.items k false ≡ is_limited l.p.limits (ladder_of l.p k);
}

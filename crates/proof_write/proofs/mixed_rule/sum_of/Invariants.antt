use Rattle.std.proofs.Common.{◌≡◌, ◌≤◌, ◌*◌}
use Rattle.std.specs.Prelude.{slice_index}
use Rattle.offer_model.specs.Assortments.{sum_below}
use Rattle.proof_write.proofs.mixed_rule.sum_of.Given as goal

abbrev pub invariant-loop-k : goal.invariant-loop-k
invariant-loop-k l = record {
  sum : l.sum ≡ sum_below l.k (slice_index l.values);
  small : l.sum ≤ l.k * 18446744073709551615;
}

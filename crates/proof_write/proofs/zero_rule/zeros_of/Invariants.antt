use Rattle.std.proofs.Common.{◌≡◌, ◌+◌, ◌≤◌, length, replicate, take}
use Rattle.std.specs.List.{filter}
use Rattle.offer_model.specs.LeafBounds.{is_priced}
use Rattle.proof_write.proofs.zero_rule.zeros_of.Given as goal

abbrev pub invariant-loop-k : goal.invariant-loop-k
invariant-loop-k l = record {
  zeros : l.zeros.items ≡ replicate (length (filter is_priced (take l.k l.limits.items))) 0;
  room : length l.limits.items ≤ l.zeros.spare + l.k;
}

use Rattle.std.proofs.Common.{◌≡◌, ◌+◌, ◌≤◌, length, take}
use Rattle.std.specs.List.{filter}
use Rattle.offer_model.specs.LeafBounds.{is_priced}
use Rattle.multiplier_bound.proofs.multipliers.copy_priced.Given as goal

abbrev pub invariant-loop-k : goal.invariant-loop-k
invariant-loop-k l = record {
  kept : l.priced.items ≡ filter is_priced (take l.k l.limits.items);
  room : length l.limits.items ≤ l.priced.spare + l.k;
}

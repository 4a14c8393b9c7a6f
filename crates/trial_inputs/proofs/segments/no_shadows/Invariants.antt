use Rattle.std.proofs.Common.{◌≡◌, ◌+◌, ◌≤◌, replicate}
use Rattle.trial_inputs.proofs.segments.no_shadows.Given as goal

abbrev pub invariant-loop-k : goal.invariant-loop-k
invariant-loop-k l = record {
  zeros : l.shadows.items ≡ replicate l._k 0;
  room : l.count ≤ l.shadows.spare + l._k;
}

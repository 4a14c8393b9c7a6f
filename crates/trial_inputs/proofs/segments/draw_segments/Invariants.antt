use Rattle.std.proofs.Common.{◌≡◌, ◌+◌, ◌*◌, ◌≤◌, map}
use Rattle.std.specs.List.{range_with_len}
use Rattle.trial_inputs.specs.TrialInputs.{state_at, segment_from}
use Rattle.trial_inputs.proofs.segments.draw_segments.Given as goal

abbrev pub invariant-loop-g : goal.invariant-loop-g
invariant-loop-g l = record {
  drawn : l.segments.items ≡ map (λ g. segment_from l.initial.rng l.count (g * (l.count + 1))) (range_with_len 0 l.g);
  state : l.rng ≡ state_at l.initial.rng (l.g * (l.count + 1));
  room : l.groups ≤ l.segments.spare + l.g;
}

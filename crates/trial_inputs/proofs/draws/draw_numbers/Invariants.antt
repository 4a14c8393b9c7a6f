use Rattle.std.proofs.Common.{◌≡◌, ◌+◌, ◌%◌, ◌≤◌, map}
use Rattle.std.specs.List.{range_with_len}
use Rattle.trial_inputs.specs.TrialInputs.{state_at, word_at}
use Rattle.trial_inputs.proofs.draws.draw_numbers.Given as goal

abbrev pub invariant-loop-i : goal.invariant-loop-i
invariant-loop-i l = record {
  drawn : l.numbers.items ≡ map (λ i. l.least + word_at l.initial.rng i % l.span) (range_with_len 0 l.i);
  state : l.rng ≡ state_at l.initial.rng l.i;
  room : l.count ≤ l.numbers.spare + l.i;
}

use Rattle.std.proofs.Common.{◌≡◌, ◌+◌, length, take}
use Rattle.several_step.proofs.descent.write_numbers.Given as goal

abbrev pub invariant-loop-u : goal.invariant-loop-u
invariant-loop-u l = record {
  items : l.numbers.items ≡ take l.u-index l.us;
  spare : length l.numbers.items + l.numbers.spare ≡ length l.fn.numbers.items + l.fn.numbers.spare;
}

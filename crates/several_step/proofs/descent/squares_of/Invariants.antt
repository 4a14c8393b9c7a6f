use Rattle.std.proofs.Common.{◌≡◌, length}
use Rattle.several_step.proofs.descent.squares_of.Given as goal

abbrev pub invariant-loop-k : goal.invariant-loop-k
invariant-loop-k l = length l.squares.items ≡ length l.multipliers.priced

use Rattle.std.proofs.Common.{◌≡◌, length}
use Rattle.several_step.proofs.rounding.clear.Given as goal

abbrev pub invariant-loop-i : goal.invariant-loop-i
invariant-loop-i l = length l.offered ≡ length l.fn.offered

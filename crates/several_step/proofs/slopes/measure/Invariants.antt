use Rattle.std.proofs.Common.{◌≡◌, length}
use Rattle.several_step.proofs.slopes.measure.Given as goal

abbrev pub invariant-loop-k : goal.invariant-loop-k
invariant-loop-k l = length l.slopes ≡ length l.fn.slopes

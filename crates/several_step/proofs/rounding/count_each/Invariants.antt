use Rattle.std.proofs.Common.{◌≡◌, length}
use Rattle.several_step.proofs.rounding.count_each.Given as goal

abbrev pub invariant-loop-k : goal.invariant-loop-k
invariant-loop-k l = length l.used ≡ length l.fn.used

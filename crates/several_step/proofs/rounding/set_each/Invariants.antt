use Rattle.std.proofs.Common.{◌≡◌, length}
use Rattle.several_step.proofs.rounding.set_each.Given as goal

abbrev pub invariant-loop-m : goal.invariant-loop-m
invariant-loop-m l = length l.offered ≡ length l.fn.offered

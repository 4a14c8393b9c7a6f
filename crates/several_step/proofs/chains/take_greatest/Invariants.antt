use Rattle.std.proofs.Common.{◌≡◌, length}
use Rattle.several_step.proofs.chains.take_greatest.Given as goal

abbrev pub invariant-loop-i : goal.invariant-loop-i
invariant-loop-i l = length l.taken ≡ length l.fn.taken

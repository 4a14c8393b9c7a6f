use Rattle.std.proofs.Common.{◌≡◌}
use Rattle.several_step.proofs.rounding.Rounding.start.Given as goal

abbrev pub invariant-loop-i : goal.invariant-loop-i
invariant-loop-i l = l.self ≡ l.fn.self

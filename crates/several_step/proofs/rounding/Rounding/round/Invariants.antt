use Rattle.std.proofs.Common.{◌≡◌}
use Rattle.several_step.proofs.rounding.Rounding.round.Given as goal

abbrev pub invariant-loop-k : goal.invariant-loop-k
invariant-loop-k l = l.self ≡ l.fn.self

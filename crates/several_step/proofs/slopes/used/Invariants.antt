use Rattle.std.proofs.Common.{◌*◌, ◌≤◌}
use Rattle.several_step.proofs.slopes.used.Given as goal

abbrev pub invariant-loop-i : goal.invariant-loop-i
invariant-loop-i l = l.used ≤ 1000 * l.i

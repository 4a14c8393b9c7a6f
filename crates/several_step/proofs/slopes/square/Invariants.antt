use Rattle.std.proofs.Common.{◌*◌, ◌≤◌}
use Rattle.several_step.proofs.slopes.square.Given as goal

abbrev pub invariant-loop-i : goal.invariant-loop-i
invariant-loop-i l = l.sum ≤ 1000000 * l.i

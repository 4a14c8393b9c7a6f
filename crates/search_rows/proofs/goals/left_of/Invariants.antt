use Rattle.std.proofs.Common.{◌≡◌, ◌≤◌}
use Rattle.search_rows.specs.WorkedGoals.{left_of}
use Rattle.search_rows.proofs.goals.left_of.Given as goal

abbrev pub invariant-loop-i : goal.invariant-loop-i
invariant-loop-i l = (l.left ≡ left_of l.i l.node) × (l.left ≤ l.i)

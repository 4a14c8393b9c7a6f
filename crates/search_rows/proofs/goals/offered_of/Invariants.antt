use Rattle.std.proofs.Common.{◌≡◌, ◌≤◌}
use Rattle.search_rows.specs.WorkedGoals.{offered_of}
use Rattle.search_rows.proofs.goals.offered_of.Given as goal

abbrev pub invariant-loop-i : goal.invariant-loop-i
invariant-loop-i l = (l.offered ≡ offered_of l.i l.x) × (l.offered ≤ l.i)

use Rattle.std.proofs.Common.{◌≡◌, length}
use Rattle.step_rows.proofs.problems.node_of.Given as goal

-- The node keeps its length.
abbrev pub invariant-loop-i : goal.invariant-loop-i
invariant-loop-i l = length l.node ≡ length l.marks

use Rattle.std.proofs.Common.{◌≡◌}
use Rattle.std.proofs.Common.{take}
use Rattle.cut_step.specs.Closures.{rows_of}
use Rattle.cut_step.proofs.rows.rows_of.Given as goal

abbrev pub invariant-loop-k : goal.invariant-loop-k
invariant-loop-k l = l.rows.items ≡ rows_of (take l.k l.limits.items)

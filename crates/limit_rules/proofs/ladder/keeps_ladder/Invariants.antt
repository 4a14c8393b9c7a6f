use Rattle.std.proofs.Common.{ℕ, ◌<◌}
use Rattle.limit_rules.specs.Ladders.{StandsOnLadder, FitsOnLadder}
use Rattle.limit_rules.proofs.ladder.keeps_ladder.Given as goal

abbrev pub invariant-loop-i : goal.invariant-loop-i
invariant-loop-i g l = (k : ℕ) → k < l.i → StandsOnLadder l.p (g.C.Choice.chosen l.x) l.ladder k
    → FitsOnLadder l.p (g.C.Choice.chosen l.x) l.ladder k

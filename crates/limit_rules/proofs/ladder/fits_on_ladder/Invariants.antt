use Rattle.std.proofs.Common.{◌≢◌, ℕ, ◌<◌}
use Rattle.offer_model.specs.Problems.{product_at}
use Rattle.offer_model.specs.Limits.{MayStand}
use Rattle.limit_rules.specs.Ladders.{StandsOnLadder}
use Rattle.limit_rules.proofs.ladder.fits_on_ladder.Given as goal

abbrev pub invariant-loop-j : goal.invariant-loop-j
invariant-loop-j g l = (k : ℕ) → k < l.j → k ≢ l.i → StandsOnLadder l.p (g.C.Choice.chosen l.x) l.ladder k
    → MayStand (product_at l.p l.i) (product_at l.p k)

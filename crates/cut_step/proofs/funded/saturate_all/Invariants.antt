use Rattle.std.proofs.Common.{◌≡◌, List, length}
use lib.IntN.{ℤ}
use Rattle.cut_step.specs.Phases.{IsUnderway}
use Rattle.cut_step.proofs.funded.saturate_all.Given as goal

abbrev pub invariant-loop-k : goal.invariant-loop-k
invariant-loop-k l = record {
  underway : (w : List ℤ) → IsUnderway l.rows l.node w l.fn.flow.excess.items l.fn.flow.amounts.items l.spots
      → IsUnderway l.rows l.node w l.flow.excess.items l.flow.amounts.items l.spots;
  each : length l.flow.amounts.items ≡ length l.fn.flow.amounts.items;
  excess : length l.flow.excess.items ≡ length l.fn.flow.excess.items;
}

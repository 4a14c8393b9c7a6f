use Rattle.std.proofs.Common.{List, length}
use lib.IntN.{ℤ}
use Rattle.cut_step.specs.Sizes.{FitTogether}
use Rattle.cut_step.specs.Phases.{imbalance_of, IsBegun}
use Rattle.cut_step.proofs.funded.augment_all.Given as goal

abbrev pub invariant-paths : goal.invariant-paths
invariant-paths l = record {
  begun : (w : List ℤ) → IsBegun l.rows l.node w l.fn.flow.excess.items l.fn.flow.amounts.items l.fn.reach.spots.items l.fn.reach.tree.items
      → IsBegun l.rows l.node w l.flow.excess.items l.flow.amounts.items l.reach.spots.items l.reach.tree.items;
  lists : FitTogether l.rows l.node l.flow l.reach;
}

-- Each path makes the imbalance less.
abbrev pub decreases-paths : goal.decreases-paths
decreases-paths l = imbalance_of l.node (length l.node) l.flow.excess.items

use Rattle.std.proofs.Common.{◌≡◌, None, List, Bool}
use Rattle.tree_search.specs.Goals.{IsFeasibleFor}
use Rattle.tree_search.specs.Progress.{Has}
use Rattle.tree_search.proofs.SizeLemmas.{size}
use Rattle.tree_search.proofs.begin.dive.Given as goal

-- There is no best, and each feasible assortment is still to come.
abbrev pub invariant-loop-walker : goal.invariant-loop-walker
invariant-loop-walker g l =
    let r = g.T.Goal.rules l.initial.goal in
    record {
      same : l.goal ≡ l.initial.goal;
      products : l.walker.products ≡ l.initial.walker.products;
      none : l.walker.best ≡ None;
      left : (y : List Bool) → IsFeasibleFor r y → Has r l.walker y;
    }

-- All nodes that can still come of the stack.
abbrev pub decreases-loop-walker : goal.decreases-loop-walker
decreases-loop-walker g l = size l.walker.stack

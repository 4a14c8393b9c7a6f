use Rattle.std.proofs.Common.{◌≡◌, List, Bool}
use Rattle.tree_search.specs.Progress.{Has, IsFeasibleBest, IsOwn}
use Rattle.tree_search.proofs.SizeLemmas.{size}
use Rattle.tree_search.proofs.search.run.Given as goal

-- No feasible assortment is lost, and the number seen stays what is wanted.
abbrev pub invariant-loop-walker : goal.invariant-loop-walker
invariant-loop-walker g l =
    let r = g.T.Goal.rules l.initial.goal in
    record {
      same : l.goal ≡ l.initial.goal;
      products : l.walker.products ≡ l.initial.walker.products;
      best : IsFeasibleBest r l.walker.best;
      own : IsOwn r l.walker.best l.seen;
      kept : (y : List Bool) → r.Feasible y → Has r l.initial.walker y → Has r l.walker y;
    }

-- All nodes that can still come of the stack.
abbrev pub decreases-loop-walker : goal.decreases-loop-walker
decreases-loop-walker g l = size l.walker.stack

use Rattle.std.proofs.Common.{◌≡◌}
use Rattle.tree_search.proofs.SizeLemmas.{size}
use Rattle.search_rows.proofs.walkers.greatest_stack.Given as goal

abbrev pub invariant-loop-walker : goal.invariant-loop-walker
invariant-loop-walker g l = record {
  same : l.goal ≡ l.initial.goal;
  products : l.walker.products ≡ l.initial.walker.products;
}

abbrev pub decreases-loop-walker : goal.decreases-loop-walker
decreases-loop-walker g l = size l.walker.stack

use Rattle.std.proofs.Common.{◌≡◌, []}
use Rattle.search_rows.proofs.walkers.greatest_stack_of.Given as goal

abbrev pub invariant-loop-task : goal.invariant-loop-task
invariant-loop-task g l = record {
  same : l.goal ≡ l.initial.goal;
  empty : l.walker.stack ≡ [];
  products : l.walker.products ≡ l.products;
}

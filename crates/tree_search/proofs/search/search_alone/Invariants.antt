use Rattle.std.proofs.Common.{◌≡◌, []}
use Rattle.tree_search.specs.Progress.{Covers, Progress}
use Rattle.tree_search.proofs.search.search_alone.Given as goal

abbrev pub invariant-loop-task : goal.invariant-loop-task
invariant-loop-task g l =
    let r = g.T.Goal.rules l.initial.goal in
    record {
      same : l.goal ≡ l.initial.goal;
      empty : l.walker.stack ≡ [];
      progress : Progress r (Covers r) l.task l.walker;
    }

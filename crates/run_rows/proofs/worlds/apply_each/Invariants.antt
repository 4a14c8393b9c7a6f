use Rattle.std.proofs.Common.{◌≡◌}
use Rattle.tree_search.specs.Worlds.{IsWorldOf}
use Rattle.run_rows.proofs.worlds.apply_each.Given as goal

abbrev pub invariant-loop-event : goal.invariant-loop-event
invariant-loop-event g l = record {
  world : IsWorldOf (g.T.Goal.rules l.initial.goal).products l.world;
  same : l.goal ≡ l.initial.goal;
}

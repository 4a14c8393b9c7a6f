use Rattle.std.proofs.Common.{◌≡◌, ◌≤◌}
use Rattle.std.specs.Prelude.{replicate, vec_len, vec_capacity}
use Rattle.tree_search.specs.Worlds.{new_worker}
use Rattle.tree_search.proofs.world.World.start.Given as goal

abbrev pub invariant-loop-made : goal.invariant-loop-made
invariant-loop-made l = record {
  made : l.list.items ≡ replicate l._made new_worker;
  count : vec_len l.list ≡ l._made;
  room : l.count ≤ vec_capacity l.list;
}

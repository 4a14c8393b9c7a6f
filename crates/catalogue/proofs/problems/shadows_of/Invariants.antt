use Rattle.std.proofs.Common.{◌≡◌, ◌+◌, ◌≤◌, length, map, take}
use Rattle.catalogue.specs.CatalogueProblems.{shadow_under}
use Rattle.catalogue.proofs.problems.shadows_of.Given as goal

abbrev pub invariant-loop-i : goal.invariant-loop-i
invariant-loop-i l = record {
  items : l.list.items ≡ map (shadow_under l.model) (take l.i l.c);
  room : length l.c ≤ l.list.spare + l.i;
}

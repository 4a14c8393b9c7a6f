use Rattle.leaf_bounds.specs.LadderLists.{Collects}
use Rattle.leaf_bounds.proofs.ladders.collect.Given as goal

abbrev pub invariant-loop-i : goal.invariant-loop-i
invariant-loop-i l = Collects l.p l.ladder l.i l.list.items

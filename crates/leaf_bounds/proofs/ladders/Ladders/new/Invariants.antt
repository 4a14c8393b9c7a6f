use Rattle.leaf_bounds.specs.LadderLists.{HaveLadders}
use Rattle.leaf_bounds.proofs.ladders.Ladders.new.Given as goal

abbrev pub invariant-loop-i : goal.invariant-loop-i
invariant-loop-i l = HaveLadders l.p l.i l.lists.items l.places.items

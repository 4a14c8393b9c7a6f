use Rattle.std.proofs.Common.{◌≡◌, ◌+◌, cond, get_or}
use Rattle.offer_model.specs.Assortments.{offers, sum_below}
use Rattle.offer_model.specs.Nodes.{fill_of}
use Rattle.shelf_table.proofs.room.room_left.Given as goal

abbrev pub invariant-loop-i : goal.invariant-loop-i
invariant-loop-i l = sum_below l.i (λ j. cond (offers (fill_of l.node) j) (get_or l.spaces j 0) 0) + l.room ≡ l.shelf

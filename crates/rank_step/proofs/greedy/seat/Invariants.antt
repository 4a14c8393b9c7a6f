use Rattle.std.proofs.Common.{◌≡◌}
use Rattle.offer_model.specs.Nodes.{fill_of}
use Rattle.rank_step.specs.Rooms.{AreRooms, AreTaken}
use Rattle.rank_step.proofs.greedy.seat.Given as goal

abbrev pub invariant-loop-i : goal.invariant-loop-i
invariant-loop-i l = record {
  rooms_each : AreRooms l.p l.rooms;
  taken : AreTaken l.p (fill_of l.node) l.i l.rooms;
  cutoffs : l.rooms.cutoffs ≡ l.fn.rooms.cutoffs;
}

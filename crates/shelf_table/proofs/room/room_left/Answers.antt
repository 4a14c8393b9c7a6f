use Rattle.std.proofs.Common.{rules, ◌≡◌}
use Rattle.offer_model.specs.declared.node.Mark.TheVariants.{In}
use Rattle.offer_model.specs.Nodes.{mark_at}
use Rattle.shelf_table.proofs.RoomLemmas.{no_room, room_taken}
use Rattle.shelf_table.proofs.room.room_left.Goals as goal

pub returns-then-spaces-i : goal.returns-then-spaces-i
returns-then-spaces-i c =
    let a = c.args in
    let l = c.loop-i in
    let is_in : mark_at a.node.now l.i ≡ In = search rules in
    no_room a.spaces.now a.node.now a.shelf l.i l.room (search rules) is_in l.invariant (search rules)

pub loop-i-preserved : goal.loop-i-preserved
loop-i-preserved c =
    let a = c.args in
    let l = c.loop-i in
    let is_in : mark_at a.node.now l.i ≡ In = search rules in
    room_taken a.spaces.now a.node.now a.shelf l.i l.room is_in l.invariant (search rules)

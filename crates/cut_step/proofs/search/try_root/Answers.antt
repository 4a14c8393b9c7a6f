use Rattle.std.proofs.Common.{◌∙◌, arith, sym}
use Rattle.cut_step.proofs.GrowthLemmas.{rooted, room_left}
use Rattle.cut_step.proofs.search.try_root.Goals as goal

pub add-requires-clause-room : goal.add-requires-clause-room
add-requires-clause-room c =
    let left = room_left c.args.rows.now c.args.node.now c.args.phase c.args.flow.now.amounts.items c.args.flow.now.excess.items
    c.args.reach.now.spots.items c.args.reach.now.tree.items c.args.i c.requires.searched c.requires.inside (sym c.spot.ensures ∙ c.in-Free.is) in
    omega (arith, left, c.requires.lists.room)

pub returns-in-Free-clause-rooted : goal.returns-in-Free-clause-rooted
returns-in-Free-clause-rooted c =
    rooted c.args.rows.now c.args.node.now c.args.phase c.args.flow.now.amounts.items c.args.flow.now.excess.items c.args.reach.now.spots.items
    c.add.new.self.spots.items c.args.reach.now.tree.items c.add.new.self.tree.items c.args.i c.supply_at-cap.result c.requires.searched
    c.requires.inside (sym c.spot.ensures ∙ c.in-Free.is) c.supply_at-cap.ensures c.if-cap-gt0.true
    (rw (c.len-from.ensures, c.args.reach.now.tree.ok.0) at c.add.ensures.tree) c.add.ensures.spots

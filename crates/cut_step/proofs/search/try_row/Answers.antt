use Rattle.std.proofs.Common.{◌≡◌, ◌∙◌, true, false, arith, ap, sym}
use Rattle.cut_step.specs.declared.reach.Entry.{Entry}
use Rattle.cut_step.specs.Closures.{first_of, second_of}
use Rattle.cut_step.specs.Trees.{cap}
use Rattle.cut_step.proofs.GrowthLemmas.{tried_over, room_left}
use Rattle.cut_step.proofs.search.try_row.Goals as goal

pub entry-cap-requires : goal.entry-cap-requires
entry-cap-requires c = (c.requires.searched.there (first_of c.args.rows.now c.args.k) c.in-At-Free.place (sym c.spot.ensures ∙ c.in-At-Free.is-0)).0

pub add-requires-clause-room : goal.add-requires-clause-room
add-requires-clause-room c =
    let left = room_left c.args.rows.now c.args.node.now c.args.phase c.args.flow.now.amounts.items c.args.flow.now.excess.items
    c.args.reach.now.spots.items c.args.reach.now.tree.items (second_of c.args.rows.now c.args.k) c.requires.searched (c.requires.lists.names c.args.k c.requires.row).1 (sym c.spot-2.ensures ∙ c.in-At-Free.is-1) in
    omega (arith, left, c.requires.lists.room)

pub entry-requires : goal.entry-requires
entry-requires c = (c.requires.searched.there (second_of c.args.rows.now c.args.k) c.in-Free-At.place (sym c.spot-2.ensures ∙ c.in-Free-At.is-1)).0

pub add-requires-in-Free-At-clause-room : goal.add-requires-in-Free-At-clause-room
add-requires-in-Free-At-clause-room c =
    let left = room_left c.args.rows.now c.args.node.now c.args.phase c.args.flow.now.amounts.items c.args.flow.now.excess.items
    c.args.reach.now.spots.items c.args.reach.now.tree.items (first_of c.args.rows.now c.args.k) c.requires.searched (c.requires.lists.names c.args.k c.requires.row).0 (sym c.spot.ensures ∙ c.in-Free-At.is-0) in
    omega (arith, left, c.requires.lists.room)

pub returns-in-At-Free-clause-tried : goal.returns-in-At-Free-clause-tried
returns-in-At-Free-clause-tried c =
    let t = c.requires.searched.there (first_of c.args.rows.now c.args.k) c.in-At-Free.place (sym c.spot.ensures ∙ c.in-At-Free.is-0) in
    let caps : c.entry-cap.result.cap ≡ cap c.args.reach.now.tree.items c.in-At-Free.place = ap (λ (x : Entry). x.cap) c.entry-cap.ensures in
    let some = c.requires.searched.some c.in-At-Free.place t.0 in
    tried_over c.args.rows.now c.args.node.now c.args.phase c.args.flow.now.amounts.items c.args.flow.now.excess.items c.args.reach.now.spots.items
    c.add.new.self.spots.items c.args.reach.now.tree.items c.add.new.self.tree.items c.args.k c.in-At-Free.place c.entry-cap.result.cap false
    c.requires.searched c.requires.lists.names c.requires.row (sym c.spot.ensures ∙ c.in-At-Free.is-0) (sym c.spot-2.ensures ∙ c.in-At-Free.is-1)
    (omega (arith, some, caps)) (omega (arith, caps)) (λ q. omega (arith, caps)) (λ q. cc) c.add.ensures.tree c.add.ensures.spots

pub returns-in-Free-At-clause-tried : goal.returns-in-Free-At-clause-tried
returns-in-Free-At-clause-tried c =
    let t = c.requires.searched.there (second_of c.args.rows.now c.args.k) c.in-Free-At.place (sym c.spot-2.ensures ∙ c.in-Free-At.is-1) in
    let caps : c.entry.result.cap ≡ cap c.args.reach.now.tree.items c.in-Free-At.place = ap (λ (x : Entry). x.cap) c.entry.ensures in
    let some = c.requires.searched.some c.in-Free-At.place t.0 in
    let amount = c.amount-amount.ensures in
    let less = c.least-cap.ensures.second in
    tried_over c.args.rows.now c.args.node.now c.args.phase c.args.flow.now.amounts.items c.args.flow.now.excess.items c.args.reach.now.spots.items
    c.add-in-Free-At.new.self.spots.items c.args.reach.now.tree.items c.add-in-Free-At.new.self.tree.items c.args.k c.in-Free-At.place c.least-cap.result true
    c.requires.searched c.requires.lists.names c.requires.row (sym c.spot-2.ensures ∙ c.in-Free-At.is-1) (sym c.spot.ensures ∙ c.in-Free-At.is-0)
    (c.least-cap.ensures.some (omega (arith, some, caps)) c.if-amount-gt0.true) (omega (arith, caps, c.least-cap.ensures.first)) (λ q. cc)
    (λ q. omega (arith, less, amount)) c.add-in-Free-At.ensures.tree c.add-in-Free-At.ensures.spots

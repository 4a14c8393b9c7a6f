use Rattle.std.proofs.Common.{subst}
use Rattle.std.specs.Prelude.{Some, None}
use Rattle.linear_step.specs.Weights.{prices_of}
use Rattle.shelf_table.specs.Rooms.{IsRoomLeft}
use Rattle.shelf_table.proofs.RoomLemmas.{room_is, over_is}
use Rattle.table_steps.proofs.ShelfStepLemmas.{read_greatest, over_has_none}
use Rattle.table_steps.proofs.shelf.ShelfStepStep.best.Goals as goal

pub returns-in_ok-choose-in-Some-clause-answer : goal.returns-in_ok-choose-in-Some-clause-answer
returns-in_ok-choose-in-Some-clause-answer g c =
    let a = c.args in
    let s = a.self.now in
    let room = c.in-Some.room in
    let left = subst (λ spaces. IsRoomLeft spaces s.shelf a.node.now (Some room)) c.deref.ensures.value c.in-Some.ensures in
    let fits = room_is a.p.now s.spaces.items s.shelf a.node.now room c.requires.fits.same_spaces left in
    let read = c.in_ok-choose-in-Some.ensures.answer in
    (read_greatest a.p.now a.node.now (prices_of a.weights.now) s.shelf room c.in_ok-choose-in-Some.field-0 read.0 c.requires.fits.limit c.requires.node fits read.1).0

pub returns-in-None-clause-answer : goal.returns-in-None-clause-answer
returns-in-None-clause-answer g c =
    let a = c.args in
    let s = a.self.now in
    let none = subst (λ spaces. IsRoomLeft spaces s.shelf a.node.now None) c.deref.ensures.value c.in-None.ensures in
    over_has_none a.p.now a.node.now s.shelf c.requires.fits.limit (over_is a.p.now s.spaces.items s.shelf a.node.now c.requires.fits.same_spaces none)

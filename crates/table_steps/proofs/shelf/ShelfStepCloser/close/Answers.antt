use Rattle.std.proofs.Common.{subst}
use Rattle.std.specs.Prelude.{Some, None}
use Rattle.linear_step.specs.Weights.{prices_of}
use Rattle.shelf_table.specs.Rooms.{IsRoomLeft}
use Rattle.shelf_table.proofs.RoomLemmas.{room_is, over_is}
use Rattle.table_steps.proofs.ShelfStepLemmas.{fits_closes, over_closes}
use Rattle.table_steps.proofs.shelf.ShelfStepCloser.close.Goals as goal

pub returns-in-Some-clause-answer : goal.returns-in-Some-clause-answer
returns-in-Some-clause-answer c =
    let a = c.args in
    let s = a.self.now in
    let room = c.in-Some.field-0 in
    let left = subst (λ spaces. IsRoomLeft spaces s.shelf a.node.now (Some room)) c.deref.ensures.value c.in-Some.ensures in
    fits_closes a._p.now a.node.now (prices_of a._weights.now) s.shelf room c.requires.fits.limit c.requires.node
    (room_is a._p.now s.spaces.items s.shelf a.node.now room c.requires.fits.same_spaces left)

pub returns-in-None-clause-answer : goal.returns-in-None-clause-answer
returns-in-None-clause-answer c =
    let a = c.args in
    let s = a.self.now in
    let none = subst (λ spaces. IsRoomLeft spaces s.shelf a.node.now None) c.deref.ensures.value c.in-None.ensures in
    over_closes a._p.now a.node.now (prices_of a._weights.now) s.shelf c.requires.fits.limit
    (over_is a._p.now s.spaces.items s.shelf a.node.now c.requires.fits.same_spaces none)

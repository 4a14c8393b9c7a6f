use Rattle.std.proofs.Common.{◌≡◌, ◌<◌, ◌≤◌, rules, arith, ◌∙◌, length}
use Rattle.std.proofs.Math.ListN.{length-map}
use Rattle.std.proofs.lemmas.Int.{to_z-of_z}
use mir.Val.{SFits}
use mir.Syntax.{w128}
use Rattle.offer_model.specs.Problems.{product_count}
use Rattle.offer_model.specs.Nodes.{fill_of}
use Rattle.linear_step.specs.Weights.{weight_at}
use Rattle.shelf_table.specs.Tables.{space_of}
use Rattle.table_steps.specs.ShelfReading.{best_sum}
use Rattle.shelf_table.proofs.RoomLemmas.{room_is}
use Rattle.table_steps.proofs.ShelfLemmas.{read_settled, cells_are, fits_step, take_step, leave_step, space_read}
use Rattle.table_steps.proofs.shelf.ShelfStep.choose.Goals.{then-best_from, else-best_from}
use Rattle.table_steps.proofs.shelf.ShelfStep.choose.Goals as goal

pub loop-k-init : goal.loop-k-init
loop-k-init c =
    let a = c.args in
    let s = a.self.now in
    let long : length (fill_of a.node.now) ≡ product_count a.p.now = (simp length-map) ∙ c.requires.node in
    let fits = room_is a.p.now s.spaces.items s.shelf a.node.now a.room c.requires.fits.same_spaces c.requires.room in
    let inside : c.first_open-start.result ≤ product_count a.p.now = search rules in
    rw (c.fill_out.ensures, c.refresh.ensures.same.0)
    (read_settled a.p.now a.node.now (weight_at a.weights.now) s.shelf a.room c.first_open-start.result long fits inside c.first_open-start.ensures.settled)

pub overflow_sub-room : goal.overflow_sub-room
overflow_sub-room c =
    let a = c.args in
    let s = c.refresh.new.self in
    let l = c.loop-k in
    let inside : l.k < product_count a.p.now = search rules in
    let price = weight_at a.weights.now in
    let here : SFits w128 c.best_from.result = search rules in
    let next : SFits w128 c.best_from-in-loop-k.result = search rules in
    let cells = cells_are a.p.now s.shelf s.spaces.items s.prices.items s.table a.node.now price c.first_open-start.result _ l.k l.x l.room
    c.best_from.result c.best_from-in-loop-k.result c.refresh.ensures.fits c.refresh.ensures.free (search rules) inside l.invariant
    c.best_from.ensures c.best_from-in-loop-k.ensures in
    let test = rw (to_z-of_z w128 c.best_from-in-loop-k.result next, to_z-of_z w128 c.best_from.result here) at c.if-best_from.true in
    let fits = fits_step a.p.now a.node.now price l.k l.room c.best_from.result c.best_from-in-loop-k.result inside cells test in
    let same = space_read a.p.now s.spaces.items l.k c.index.result.now c.refresh.ensures.fits.same_spaces inside c.index.ensures in
    omega arith

pub loop-k-preserved : goal.loop-k-preserved
loop-k-preserved c =
    let a = c.args in
    let s = c.refresh.new.self in
    let l = c.loop-k in
    let inside : l.k < product_count a.p.now = search rules in
    let price = weight_at a.weights.now in
    let z = best_sum (space_of a.p.now) (product_count a.p.now) a.node.now price a.room in
    let here : SFits w128 c.best_from.result = search rules in
    let next : SFits w128 c.best_from-in-loop-k.result = search rules in
    let cells = cells_are a.p.now s.shelf s.spaces.items s.prices.items s.table a.node.now price c.first_open-start.result z l.k l.x l.room
    c.best_from.result c.best_from-in-loop-k.result c.refresh.ensures.fits c.refresh.ensures.free (search rules) inside l.invariant
    c.best_from.ensures c.best_from-in-loop-k.ensures in
    elim c.if-best_from.branch [
      | then-best_from w ↦
          let test = rw (to_z-of_z w128 c.best_from-in-loop-k.result next, to_z-of_z w128 c.best_from.result here) at w.if-best_from.true in
          let same = space_read a.p.now s.spaces.items l.k w.index.result.now c.refresh.ensures.fits.same_spaces inside w.index.ensures in
          rw (w.x-is, w.room-is, w.set.ensures, same)
          (take_step a.p.now a.node.now price s.shelf z l.k l.x l.room c.best_from.result c.best_from-in-loop-k.result inside cells test l.invariant)
      | else-best_from w ↦
          let test = rw (to_z-of_z w128 c.best_from-in-loop-k.result next, to_z-of_z w128 c.best_from.result here) at w.if-best_from.false in
          rw (w.x-is, w.room-is)
          (leave_step a.p.now a.node.now price s.shelf z l.k l.x l.room c.best_from.result c.best_from-in-loop-k.result inside cells test l.invariant)
    ]

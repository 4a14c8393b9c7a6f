use Rattle.std.proofs.Common.{◌≡◌, ◌∙◌, rules, sym, subst, Some, None}
use Rattle.std.specs.Prelude.{◌+ℤ◌}
use Rattle.std.proofs.lemmas.Int.{to_z-of_z}
use mir.Val.{SFits}
use mir.Syntax.{w128}
use Rattle.offer_model.specs.LeafBounds.{shelf_space}
use Rattle.shelf_table.specs.Rooms.{IsRoomLeft}
use Rattle.leaf_bounds.proofs.KeptLemmas.{kept_bound, kept_over, bound_small}
use Rattle.leaf_bounds.proofs.kept_table.KeptTable.bound.Goals as goal

pub returns-in_err-room-clause-value : goal.returns-in_err-room-clause-value
returns-in_err-room-clause-value c =
    let a = c.args in
    let shelf : Some c.in_ok-space.space ≡ shelf_space a.p.now.limits = sym c.in_ok-space.was ∙ c.shelf.ensures.value in
    let over = subst (λ spaces. IsRoomLeft spaces c.in_ok-space.space a.node.now None) c.deref.ensures.value c.in_err-room.ensures in
    c.from_residual-in_err-room.ensures ∙ kept_over a.p.now a.node.now a.weights.now a.self.now.spaces.items c.in_ok-space.space c.requires.table.spaces shelf over

pub plus-requires : goal.plus-requires
plus-requires c =
    let a = c.args in
    let s = c.refresh.new.self in
    let done = c.refresh.ensures in
    let shelf : Some c.in_ok-space.space ≡ shelf_space a.p.now.limits = sym c.in_ok-space.was ∙ c.shelf.ensures.value in
    let left = subst (λ spaces. IsRoomLeft spaces c.in_ok-space.space a.node.now (Some c.in_ok-room.room)) c.deref.ensures.value c.in_ok-room.ensures in
    let is = kept_bound a.p.now a.node.now a.weights.now s a.self.now.spaces.items c.in_ok-space.space c.in_ok-room.room a.k c.worth_in.result c.best_from.result
    done.table done.filled done.prices c.requires.settled c.requires.node c.requires.table.spaces shelf left c.worth_in.ensures c.best_from.ensures in
    let fits : SFits w128 c.worth_in.result = search rules in
    let fits-best : SFits w128 c.best_from.result = search rules in
    rw (to_z-of_z w128 c.worth_in.result fits, to_z-of_z w128 c.best_from.result fits-best)
    (bound_small a.p.now a.node.now a.weights.now s c.in_ok-space.space (c.worth_in.result +ℤ c.best_from.result) done.table c.requires.weights shelf is)

pub returns-clause-value : goal.returns-clause-value
returns-clause-value c =
    let a = c.args in
    let s = c.refresh.new.self in
    let done = c.refresh.ensures in
    let shelf : Some c.in_ok-space.space ≡ shelf_space a.p.now.limits = sym c.in_ok-space.was ∙ c.shelf.ensures.value in
    let left = subst (λ spaces. IsRoomLeft spaces c.in_ok-space.space a.node.now (Some c.in_ok-room.room)) c.deref.ensures.value c.in_ok-room.ensures in
    let is = kept_bound a.p.now a.node.now a.weights.now s a.self.now.spaces.items c.in_ok-space.space c.in_ok-room.room a.k c.worth_in.result c.best_from.result
    done.table done.filled done.prices c.requires.settled c.requires.node c.requires.table.spaces shelf left c.worth_in.ensures c.best_from.ensures in
    let fits-sum : SFits w128 c.plus.result = search rules in
    let fits : SFits w128 c.worth_in.result = search rules in
    let fits-best : SFits w128 c.best_from.result = search rules in
    let sum = rw (to_z-of_z w128 c.worth_in.result fits, to_z-of_z w128 c.best_from.result fits-best) at c.plus.ensures in
    rw (to_z-of_z w128 c.plus.result fits-sum, sum) is

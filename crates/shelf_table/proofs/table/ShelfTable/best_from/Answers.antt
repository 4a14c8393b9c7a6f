use Rattle.std.proofs.Common.{◌≡◌, ◌+◌, ◌*◌, ◌<◌, length, rules, arith, ◌∙◌, ap}
use Rattle.std.specs.Prelude.{pos}
use Rattle.std.proofs.lemmas.Int.{to_z-of_z}
use Rattle.std.proofs.lemmas.List.{get_or_read}
use Rattle.std.proofs.lemmas.Nat.{mul-add-lt}
use mir.Val.{SFits}
use mir.Syntax.{w128}
use Rattle.shelf_table.specs.Tables.{TableData, cell_at}
use Rattle.shelf_table.proofs.table.ShelfTable.best_from.Goals as goal

pub returns : goal.returns
returns c =
    let t = c.self.inside in
    let k = c.args.k in
    let room = c.args.room in
    let fits : SFits w128 c.index.result.now = search rules in
    let products : t.products ≡ c.args.self.now.products = ap (λ (d : TableData). d.products) c.self.view_is in
    let space : t.space ≡ c.args.self.now.space = ap (λ (d : TableData). d.space) c.self.view_is in
    let below = mul-add-lt k (t.space + 1) room (t.products + 1) (omega (arith, c.requires.product)) (omega (arith, c.requires.room)) in
    let inside : k * (t.space + 1) + room < length t.cells.items = omega (arith, c.self.invariant.0, t.cells.ok.0) in
    rw (to_z-of_z w128 c.index.result.now fits)
    (get_or_read t.cells.items _ _ inside c.index.ensures (pos 0) ∙ ap (λ (d : TableData). cell_at d k room) c.self.view_is)

use Rattle.std.proofs.Common.{◌≡◌, ◌∙◌, sym, ap, ◌+◌, ◌*◌, false, Some, None, slice_index_or, rules, arith}
use Rattle.catalogue_rows.specs.Cells.{text_of, number_fault, written_number}
use Rattle.arc_tables.specs.ArcTables.{parts_column, from_named, to_named}
use Rattle.arc_tables.proofs.ArcLemmas.{judged_full, judged_clean}
use Rattle.arc_tables.proofs.arc_rows.read_arc.Goals as goal

pub returns-then-sum-scale-clause-fault : goal.returns-then-sum-scale-clause-fault
returns-then-sum-scale-clause-fault c =
    let rows = c.args.products.now in
    let table = c.args.table.now in
    let s = c.args.seen.now in
    let from = c.in_ok-from.from in
    let to = c.in_ok-to.to in
    let from_is : from_named rows table c.args.k ≡ Some from = search rules in
    let to_is : to_named rows table c.args.k ≡ Some to = search rules in
    let number : number_fault 0 c.args.scale (text_of table c.args.k parts_column) ≡ None
    = ap (number_fault 0 c.args.scale) (sym c.cell-3.ensures) ∙ c.in_ok-parts.ensures.sound in
    let parts_are : c.in_ok-parts.parts ≡ written_number (text_of table c.args.k parts_column)
    = c.in_ok-parts.ensures.number ∙ ap written_number c.cell-3.ensures in
    let fresh : slice_index_or s.pairs (from * s.count + to) false ≡ false = sym c.has.ensures ∙ c.if-has.false in
    judged_full rows c.args.scale table c.args.k s c.requires.seen from to c.in_ok-parts.parts (omega arith) from_is to_is number parts_are fresh
    (omega arith)

pub returns-clause-sound : goal.returns-clause-sound
returns-clause-sound c =
    let rows = c.args.products.now in
    let table = c.args.table.now in
    let s = c.args.seen.now in
    let from = c.in_ok-from.from in
    let to = c.in_ok-to.to in
    let from_is : from_named rows table c.args.k ≡ Some from = search rules in
    let to_is : to_named rows table c.args.k ≡ Some to = search rules in
    let number : number_fault 0 c.args.scale (text_of table c.args.k parts_column) ≡ None
    = ap (number_fault 0 c.args.scale) (sym c.cell-3.ensures) ∙ c.in_ok-parts.ensures.sound in
    let parts_are : c.in_ok-parts.parts ≡ written_number (text_of table c.args.k parts_column)
    = c.in_ok-parts.ensures.number ∙ ap written_number c.cell-3.ensures in
    let fresh : slice_index_or s.pairs (from * s.count + to) false ≡ false = sym c.has.ensures ∙ c.if-has.false in
    judged_clean rows c.args.scale table c.args.k s c.requires.seen from to c.in_ok-parts.parts (omega arith) from_is to_is number parts_are fresh
    (omega arith)

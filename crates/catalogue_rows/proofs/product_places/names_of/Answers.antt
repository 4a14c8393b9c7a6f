use Rattle.std.proofs.Common.{◌≡◌, ◌∙◌, ◌++◌, ◌∷◌, [], ap, sym, false, map, take, arith}
use Rattle.std.proofs.lemmas.List.{map_more, take-map, get_or_default}
use Rattle.table_reader.specs.Tables.{is_among}
use Rattle.catalogue_rows.specs.Rows.{RowData, no_row, row_at}
use Rattle.catalogue_rows.proofs.ReadBackLemmas.{name_new}
use Rattle.catalogue_rows.proofs.product_places.names_of.Goals as goal

pub rows-preserved : goal.rows-preserved
rows-preserved c =
    let rows = c.args.rows.now in
    let k = c.rows.row-index in
    let row : c.row-item.result ≡ row_at rows k = c.row-item.is ∙ get_or_default rows k _ no_row (omega arith) in
    let name : c.as_bytes.result.now ≡ (row_at rows k).name = c.as_bytes.ensures.value ∙ ap (λ (r : RowData). r.name) (c.row.view_is ∙ row) in
    let fresh : is_among c.as_bytes.result.now c.rows.names ≡ false
    = rw (name, c.rows.invariant, ← take-map) (name_new rows k c.requires.once (omega arith)) in
    c.in_ok-insert.ensures ∙ rw fresh
    (ap (λ names. names ++ c.as_bytes.result.now ∷ []) c.rows.invariant
    ∙ ap (λ text. map (λ (r : RowData). r.name) (take k rows) ++ text ∷ []) name
    ∙ sym (map_more (λ (r : RowData). r.name) rows k no_row (omega arith)))

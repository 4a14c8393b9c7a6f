use Rattle.std.proofs.Common.{◌≡◌, ◌∙◌, sym, ap, None, Some, option_map, arith, ◌+◌}
use Rattle.catalogue_rows.specs.Columns.{category_column, ladder_column}
use Rattle.catalogue_rows.specs.Names.{number_in}
use Rattle.catalogue_rows.specs.Rows.{RowData}
use Rattle.catalogue_rows.specs.Cells.{texts_of, text_of}
use Rattle.catalogue_rows.specs.ProductCells.{row_of}
use Rattle.catalogue_rows.specs.ProductTables.{product_fault}
use Rattle.catalogue_rows.specs.declared.faults.FileName.TheVariants.{Products}
use Rattle.catalogue_rows.specs.declared.faults.InputFault.TheVariants.{Fault}
use Rattle.catalogue_rows.specs.Columns.{name_column}
use Rattle.catalogue_rows.proofs.FaultLemmas.{no_memory}
use Rattle.catalogue_rows.proofs.ProductLemmas.{below_most, group_few, names_more, group_more, group_number}
use Rattle.catalogue_rows.proofs.product_rows.read_row.Goals as goal

pub number-requires : goal.number-requires
number-requires c =
    group_few c.args.model c.args.table.now c.args.k c.requires.row category_column c.args.seen.now.categories
    (below_most c.args.model c.args.table.now c.args.k c.in-Ok.ensures.sound) c.requires.seen.categories

pub returns-in_err-category-clause-fault : goal.returns-in_err-category-clause-fault
returns-in_err-category-clause-fault c =
    no_memory (λ e. option_map (Fault Products (c.args.k + 2)) (product_fault c.args.model c.args.table.now c.args.k) ≡ Some e)
    c.from_residual-in_err-category.result c.from_residual-in_err-category.ensures.1

pub number-requires-2 : goal.number-requires-2
number-requires-2 c =
    group_few c.args.model c.args.table.now c.args.k c.requires.row ladder_column c.args.seen.now.ladders
    (below_most c.args.model c.args.table.now c.args.k c.in-Ok.ensures.sound) c.requires.seen.ladders

pub returns-in_err-ladder-clause-fault : goal.returns-in_err-ladder-clause-fault
returns-in_err-ladder-clause-fault c =
    no_memory (λ e. option_map (Fault Products (c.args.k + 2)) (product_fault c.args.model c.args.table.now c.args.k) ≡ Some e)
    c.from_residual-in_err-ladder.result c.from_residual-in_err-ladder.ensures.1

pub returns-in_err-to_row-clause-fault : goal.returns-in_err-to_row-clause-fault
returns-in_err-to_row-clause-fault c =
    no_memory (λ e. option_map (Fault Products (c.args.k + 2)) (product_fault c.args.model c.args.table.now c.args.k) ≡ Some e)
    c.from_residual-in_err-to_row.result c.from_residual-in_err-to_row.ensures.1

pub returns-clause-row : goal.returns-clause-row
returns-clause-row c =
    let table = c.args.table.now in
    let k = c.args.k in
    let cells = c.in-Ok.cells in
    let category : text_of table k category_column ≡ c.as_bytes-2.result.now
    = ap (λ (row : RowData). row.category) c.in-Ok.ensures.row ∙ sym c.as_bytes-2.ensures.value in
    let ladder : text_of table k ladder_column ≡ c.as_bytes-3.result.now
    = ap (λ (row : RowData). row.ladder) c.in-Ok.ensures.row ∙ sym c.as_bytes-3.ensures.value in
    let category_number : c.in_ok-category.category ≡ number_in (texts_of table category_column) cells.category.now
    = group_number c.args.model table k c.requires.row category_column c.args.seen.now.categories c.as_bytes-2.result.now c.in_ok-category.category
    c.requires.seen.categories category c.in_ok-category.ensures.number
    ∙ ap (number_in (texts_of table category_column)) c.as_bytes-2.ensures.value in
    let ladder_number : c.in_ok-ladder.ladder ≡ number_in (texts_of table ladder_column) cells.ladder.now
    = group_number c.args.model table k c.requires.row ladder_column c.args.seen.now.ladders c.as_bytes-3.result.now c.in_ok-ladder.ladder
    c.requires.seen.ladders ladder c.in_ok-ladder.ensures.number
    ∙ ap (number_in (texts_of table ladder_column)) c.as_bytes-3.ensures.value in
    c.in_ok-to_row.ensures ∙ (λ i. row_of cells (category_number i) (ladder_number i)) ∙ sym c.in-Ok.ensures.row

pub returns-clause-seen : goal.returns-clause-seen
returns-clause-seen c =
    let table = c.args.table.now in
    let k = c.args.k in
    let was = c.args.seen.now in
    let clean : product_fault c.args.model table k ≡ None = c.in-Ok.ensures.sound in
    let below = below_most c.args.model table k clean in
    let name : text_of table k name_column ≡ c.as_bytes.result.now
    = ap (λ (row : RowData). row.name) c.in-Ok.ensures.row ∙ sym c.as_bytes.ensures.value in
    let category : text_of table k category_column ≡ c.as_bytes-2.result.now
    = ap (λ (row : RowData). row.category) c.in-Ok.ensures.row ∙ sym c.as_bytes-2.ensures.value in
    let ladder : text_of table k ladder_column ≡ c.as_bytes-3.result.now
    = ap (λ (row : RowData). row.ladder) c.in-Ok.ensures.row ∙ sym c.as_bytes-3.ensures.value in
    record {
      few = omega (arith, below);
      names = names_more c.args.model table k c.requires.row was.names c.insert.new.self c.as_bytes.result.now clean c.requires.seen.names name c.in_ok-insert.ensures;
      categories = group_more c.args.model table k c.requires.row category_column was.categories c.number.new.self c.as_bytes-2.result.now c.requires.seen.categories category c.in_ok-category.ensures.names;
      ladders = group_more c.args.model table k c.requires.row ladder_column was.ladders c.number-2.new.self c.as_bytes-3.result.now c.requires.seen.ladders ladder c.in_ok-ladder.ensures.names;
    }

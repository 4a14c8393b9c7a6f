use Rattle.std.proofs.Common.{sym, ap, subst, arith, ◌∙◌, [], length}
use Rattle.std.proofs.lemmas.List.{take_all}
use Rattle.std.proofs.lemmas.Result.{IfOk-weaker}
use Rattle.catalogue_rows.specs.PrintedProducts.{products_text, HasWritten}
use Rattle.catalogue_rows.proofs.PrintedTextLemmas.{header_alone, row_more}
use Rattle.catalogue_rows.proofs.ReadBackLemmas.{reads_back}
use Rattle.catalogue_rows.proofs.printing.print_products.Goals as goal

pub rows-init : goal.rows-init
rows-init c = subst (HasWritten c.write_record.new.writer) (sym header_alone) (c.in_ok-write_record.ensures [] c.fresh_writer-writer.ensures)

pub rows-preserved : goal.rows-preserved
rows-preserved c =
    let rows = c.args.c.now in
    let more = row_more rows c.rows.row-index c.row-item.result (rw c.rows-row-items.ensures.value at c.rows-test.true)
    (rw c.rows-row-items.ensures.value at c.row-item.is) in
    subst (HasWritten c.write_row.new.writer) (sym more) (c.in_ok-write_row.ensures _ c.rows.invariant)

pub returns-clause-reads_back : goal.returns-clause-reads_back
returns-clause-reads_back c =
    let rows = c.args.c.now in
    let all = take_all c.rows.row-index rows (omega (arith, ap length c.rows-row-items.ensures.value)) in
    IfOk-weaker c.written.result _ _ (λ text e. reads_back rows text.items c.rows-row-items.ensures.valid (e ∙ ap products_text all)) (c.written.ensures _ c.rows.invariant)

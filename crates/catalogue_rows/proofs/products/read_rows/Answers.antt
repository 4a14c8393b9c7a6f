use Rattle.std.proofs.Common.{◌≡◌, ◌∙◌, sym, ◌++◌, ◌∷◌, [], length, Some, rules, below_more, arith}
use Rattle.std.proofs.lemmas.List.FromFn.{map-range_with_len_more}
use Rattle.std.proofs.lemmas.Result.{err_from_is_err_and}
use Rattle.catalogue_rows.specs.ProductTables.{product_fault, product_row}
use Rattle.catalogue_rows.specs.Faults.{first_row_fault}
use Rattle.catalogue_rows.specs.declared.faults.FileName.TheVariants.{Products}
use Rattle.catalogue_rows.proofs.FaultLemmas.{no_memory, no_row_fault, first_row_fault_of}
use Rattle.catalogue_rows.proofs.products.read_rows.Goals as goal

pub rows-init : goal.rows-init
rows-init c = record {
  clean = λ j inside. absurd (omega arith);
  rows = search rules;
  seen = c.new-seen.ensures c.args.table.now;
}

pub returns-in_err-read_row-clause-fault : goal.returns-in_err-read_row-clause-fault
returns-in_err-read_row-clause-fault c =
    let table = c.args.table.now in
    let p = err_from_is_err_and c.from_residual.result c.from_residual.ensures.1 in
    rw (p.1, p.2) (first_row_fault_of Products (product_fault c.args.model table) (length table.records) c.rows.k c.in_err-read_row.field-0.0
    (omega arith) c.rows.invariant.clean c.in_err-read_row.ensures.fault)

pub returns-in_err-push-clause-fault : goal.returns-in_err-push-clause-fault
returns-in_err-push-clause-fault c =
    no_memory (λ e. first_row_fault Products (product_fault c.args.model c.args.table.now) 0 (length c.args.table.now.records) ≡ Some e)
    c.from_residual-in_err-push.result c.from_residual-in_err-push.ensures.1

pub rows-preserved : goal.rows-preserved
rows-preserved c =
    let table = c.args.table.now in
    let k = c.rows.k in
    let was = c.rows.invariant in
    let pushed : c.push.new.self.items ≡ c.rows.rows.items ++ c.in_ok-read_row.field-0 ∷ [] = search rules in
    let row : c.in_ok-read_row.field-0 ≡ product_row table k = c.in_ok-read_row.ensures.row in
    record {
      clean = below_more _ _ was.clean c.in_ok-read_row.ensures.sound;
      rows = pushed ∙ (λ i. was.rows i ++ row i ∷ []) ∙ sym (map-range_with_len_more (product_row table) 0 k k (omega arith));
      seen = c.in_ok-read_row.ensures.seen;
    }

pub returns-clause-sound : goal.returns-clause-sound
returns-clause-sound c =
    let table = c.args.table.now in
    no_row_fault Products (product_fault c.args.model table) (length table.records) (λ k inside. c.rows.invariant.clean k (omega arith))

use Rattle.std.proofs.Common.{rules, arith, ◌-◌, ◌<◌, length}
use Rattle.std.proofs.lemmas.Int.{to_z-of_z}
use mir.Val.{SFits}
use mir.Syntax.{w128}
use Rattle.shelf_table.specs.Tables.{space_of, price_in}
use Rattle.shelf_table.proofs.CellLemmas.{small_fits, sums_fit, rows_more}
use Rattle.shelf_table.proofs.table.fill_rows.Goals as goal

pub fill_row-requires-clause-sums : goal.fill_row-requires-clause-sums
fill_row-requires-clause-sums c =
    let a = c.args in
    let l = c.loop-k in
    let inside : l.k - 1 < length a.prices.now = search rules in
    sums_fit (space_of a.p.now) (price_in a.prices.now) (length a.prices.now) a.width (l.k - 1) l.cells inside (omega (arith, c.requires.few)) c.requires.small
    (λ j room h. l.invariant.rows j room (omega arith))

pub loop-k-preserved : goal.loop-k-preserved
loop-k-preserved c =
    let a = c.args in
    let l = c.loop-k in
    let inside : l.k - 1 < length a.prices.now = search rules in
    let fits : SFits w128 (price_in a.prices.now (l.k - 1)) = small_fits _ (c.requires.small (l.k - 1) inside) in
    let row = rw (c.space_of.ensures, to_z-of_z w128 (price_in a.prices.now (l.k - 1)) fits) at c.fill_row.ensures.row in
    record {
      each = search rules;
      rows = rows_more (space_of a.p.now) (price_in a.prices.now) (length a.prices.now) a.width (l.k - 1) l.cells c.fill_row.new.cells inside
          row c.fill_row.ensures.rest (λ j room h. l.invariant.rows j room (omega arith));
    }

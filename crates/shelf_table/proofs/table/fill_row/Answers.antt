use Rattle.std.proofs.Common.{rules}
use Rattle.std.proofs.lemmas.Int.{to_z-of_z}
use mir.Val.{SFits}
use mir.Syntax.{w128}
use Rattle.shelf_table.proofs.CellLemmas.{row_more, rest_kept}
use Rattle.shelf_table.proofs.table.fill_row.Goals as goal

pub loop-room-preserved : goal.loop-room-preserved
loop-room-preserved c =
    let fits : SFits w128 c.better.result = search rules in
    let a = c.args in
    let l = c.loop-room in
    rw (to_z-of_z w128 c.better.result fits) record {
      each = search rules;
      row = row_more a.cells.now l.cells a.start a.width l.room a.space _ c.better.result (search rules) (search rules) c.better.ensures l.invariant.row l.invariant.rest;
      rest = rest_kept a.cells.now l.cells a.start a.width l.room c.better.result (search rules) l.invariant.rest;
    }

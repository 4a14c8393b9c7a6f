use Rattle.std.proofs.Common.{◌≡◌, ◌∙◌, ◌==◌, sym, ap, true, length, List, ℕ}
use Rattle.catalogue.specs.SegmentTables.{is_head}
use Rattle.catalogue.proofs.segment_rows.read_row.Goals as goal

pub returns-then-is_empty-clause-fault : goal.returns-then-is_empty-clause-fault
returns-then-is_empty-clause-fault c =
    let head : is_head c.args.table.now c.args.k ≡ true
    = ap (λ (text : List ℕ). length text == 0) (sym c.cell.ensures) ∙ sym c.is_empty.ensures ∙ c.if-is_empty.true in
    rw head c.begin_segment.ensures.fault

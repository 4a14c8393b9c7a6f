use Rattle.std.proofs.Common.{◌≡◌, ◌∙◌, ◌+◌, ◌*◌, sym, ap, true, false, not, nat_lt, nat_le, length, arith}
use Rattle.offer_model.specs.declared.ranges.TheConstants.{MOST_AMOUNT, MOST_SEGMENTS}
use Rattle.table_reader.specs.Tables.{is_among}
use Rattle.catalogue_rows.specs.Cells.{number_fault, name_fault, written_number}
use Rattle.catalogue.specs.SegmentTables.{row_size, heads_before}
use Rattle.catalogue.proofs.SegmentStepLemmas.{head_judged}
use Rattle.catalogue.proofs.segment_rows.read_head.Goals as goal

pub returns-then-is_too_great-clause-fault : goal.returns-then-is_too_great-clause-fault
returns-then-is_too_great-clause-fault c =
    let table = c.args.table.now in
    let k = c.args.k in
    let heads : c.len.result ≡ length (heads_before table k) = omega arith in
    let size : c.in_ok-size.size ≡ row_size table k = c.in_ok-size.ensures.number ∙ ap written_number c.cell.ensures in
    head_judged c.args.unit table k (ap name_fault (sym c.cell-text.ensures) ∙ c.in_ok-name.ensures.sound)
    ((λ i. is_among (sym c.cell-text.ensures i) (sym c.requires.names i)) ∙ sym c.contains.ensures ∙ c.if-contains.false)
    (ap (λ n. not (nat_lt n MOST_SEGMENTS)) (sym heads) ∙ sym c.is_full.ensures ∙ c.if-is_full.false)
    (ap (number_fault 1 MOST_AMOUNT) (sym c.cell.ensures) ∙ c.in_ok-size.ensures.sound)
    (ap (number_fault 1 MOST_AMOUNT) (sym c.cell-2.ensures) ∙ c.in_ok-none.ensures.sound) c.requires.head true
    ((λ i. not (nat_le (sym c.requires.sizes i + sym size i * c.args.unit) MOST_AMOUNT)) ∙ sym c.is_too_great.ensures ∙ c.if-is_too_great.true)

pub returns-clause-sound : goal.returns-clause-sound
returns-clause-sound c =
    let table = c.args.table.now in
    let k = c.args.k in
    let heads : c.len.result ≡ length (heads_before table k) = omega arith in
    let size : c.in_ok-size.size ≡ row_size table k = c.in_ok-size.ensures.number ∙ ap written_number c.cell.ensures in
    head_judged c.args.unit table k (ap name_fault (sym c.cell-text.ensures) ∙ c.in_ok-name.ensures.sound)
    ((λ i. is_among (sym c.cell-text.ensures i) (sym c.requires.names i)) ∙ sym c.contains.ensures ∙ c.if-contains.false)
    (ap (λ n. not (nat_lt n MOST_SEGMENTS)) (sym heads) ∙ sym c.is_full.ensures ∙ c.if-is_full.false)
    (ap (number_fault 1 MOST_AMOUNT) (sym c.cell.ensures) ∙ c.in_ok-size.ensures.sound)
    (ap (number_fault 1 MOST_AMOUNT) (sym c.cell-2.ensures) ∙ c.in_ok-none.ensures.sound) c.requires.head false
    ((λ i. not (nat_le (sym c.requires.sizes i + sym size i * c.args.unit) MOST_AMOUNT)) ∙ sym c.is_too_great.ensures ∙ c.if-is_too_great.false)

use Rattle.std.proofs.Common.{◌≡◌, ◌∙◌, ◌+◌, ◌≤◌, sym, ap, subst, map, length, All, Some, None, option_map, below_more, arith}
use Rattle.std.proofs.lemmas.Result.{err_from_is_err_and}
use Rattle.offer_model.specs.declared.ranges.TheConstants.{MOST_AMOUNT, MOST_SEGMENTS}
use Rattle.offer_model.specs.Validity.{IsSegment}
use Rattle.catalogue_rows.specs.declared.faults.FileName.TheVariants.{Segments}
use Rattle.catalogue_rows.specs.declared.faults.InputFault.TheVariants.{Fault}
use Rattle.catalogue_rows.specs.Faults.{OnFault}
use Rattle.catalogue.specs.CatalogueProblems.{FitSegments}
use Rattle.catalogue.specs.Drafts.{segment_drafted}
use Rattle.catalogue.specs.SegmentTables.{NamedSegment, segment_fault, segments_of, heads_before, sizes_before}
use Rattle.catalogue.specs.SegmentDrafts.{drafts_before, HasSeenSegments}
use Rattle.catalogue_rows.proofs.FaultLemmas.{no_row_fault, first_row_fault_of}
use Rattle.catalogue.proofs.SegmentLemmas.{all_drafted, segments_fit}
use Rattle.catalogue.proofs.segments.read_rows.Goals as goal

pub rows-init : goal.rows-init
rows-init c = record {
  clean = λ j inside. absurd (omega arith);
  seen = c.new-seen.ensures c.args.catalogue.now c.args.unit c.args.table.now;
}

pub returns-in_err-read_row-clause-fault : goal.returns-in_err-read_row-clause-fault
returns-in_err-read_row-clause-fault c =
    let rows = c.args.catalogue.now in
    let unit = c.args.unit in
    let table = c.args.table.now in
    let k = c.rows.k in
    let e = c.in_err-read_row.field-0.0 in
    let p = err_from_is_err_and c.from_residual-in_err-read_row.result c.from_residual-in_err-read_row.ensures.1 in
    rw (p.1, p.2)
    (first_row_fault_of Segments (segment_fault rows unit table) (length table.records) k e (omega arith) c.rows.invariant.clean
    (subst (λ products. OnFault e (option_map (Fault Segments (k + 2)) (segment_fault products unit table k) ≡ Some e)) c.in_ok-products.ensures
    c.in_err-read_row.ensures.fault))

pub rows-preserved : goal.rows-preserved
rows-preserved c =
    let unit = c.args.unit in
    let table = c.args.table.now in
    let k = c.rows.k in
    record {
      clean = below_more _ _ c.rows.invariant.clean
          (subst (λ products. segment_fault products unit table k ≡ None) c.in_ok-products.ensures c.in_ok-read_row.ensures.sound);
      seen = subst (λ products. HasSeenSegments products unit table (k + 1) c.read_row.new.seen) c.in_ok-products.ensures c.in_ok-read_row.ensures.seen;
    }

pub returns-clause-segments : goal.returns-clause-segments
returns-clause-segments c =
    let rows = c.args.catalogue.now in
    let table = c.args.table.now in
    let end : c.rows.k ≡ length table.records = omega arith in
    c.in_ok-closed.ensures.value
    ∙ ap (map segment_drafted) (c.drafts.ensures ∙ c.rows.invariant.seen.drafts ∙ ap (drafts_before rows table) end)
    ∙ all_drafted rows table

pub returns-clause-fits : goal.returns-clause-fits
returns-clause-fits c =
    let rows = c.args.catalogue.now in
    let unit = c.args.unit in
    let table = c.args.table.now in
    let seen = c.rows.invariant.seen in
    let end : c.rows.k ≡ length table.records = omega arith in
    let segments : c.in_ok-closed.field-0.items ≡ segments_of rows table
    = c.in_ok-closed.ensures.value
    ∙ ap (map segment_drafted) (c.drafts.ensures ∙ seen.drafts ∙ ap (drafts_before rows table) end)
    ∙ all_drafted rows table in
    subst (FitSegments rows unit) (sym segments)
    (segments_fit rows table unit c.requires.unit (subst (λ n. length (heads_before table n) ≤ MOST_SEGMENTS) end seen.few)
    (subst (λ n. n ≤ MOST_AMOUNT) (seen.sizes ∙ ap (sizes_before unit table) end) seen.small)
    (subst (All (λ (named : NamedSegment). IsSegment named.segment)) segments c.in_ok-closed.ensures.valid))

pub returns-clause-sound : goal.returns-clause-sound
returns-clause-sound c =
    let table = c.args.table.now in
    no_row_fault Segments (segment_fault c.args.catalogue.now c.args.unit table) (length table.records) (λ k inside. c.rows.invariant.clean k (omega arith))

use Rattle.std.proofs.Common.{◌∙◌, sym, ap, true, false, get_or}
use Rattle.std.proofs.lemmas.Result.{err_from_is_err_and}
use Rattle.offer_model.specs.declared.ranges.TheConstants.{MOST_AMOUNT}
use Rattle.catalogue_rows.specs.Cells.{number_fault}
use Rattle.catalogue_rows.specs.Places.{product_named}
use Rattle.catalogue.specs.LimitTables.{named_fault}
use Rattle.catalogue.specs.SegmentTables.{product_text, segment_named}
use Rattle.catalogue_rows.proofs.FaultLemmas.{first_of_two}
use Rattle.catalogue.proofs.SegmentPairLemmas.{place_inside, judged_there}
use Rattle.catalogue.proofs.segment_rows.read_pair.Goals as goal

pub returns-in_err-places-clause-fault : goal.returns-in_err-places-clause-fault
returns-in_err-places-clause-fault c =
    let p = err_from_is_err_and c.from_residual.result c.from_residual.ensures.1 in
    rw (p.1, p.2)
    (first_of_two (named_fault (segment_named c.args.table.now c.args.k))
    (named_fault (product_named c.args.products.now (product_text c.args.table.now c.args.k))) _ _ c.in_err-places.ensures.fault)

pub has-requires : goal.has-requires
has-requires c =
    let places = c.in_ok-places.places in
    place_inside c.args.products.now c.args.table.now c.args.k places.segment places.product c.in_ok-places.ensures.segment c.in_ok-places.ensures.product
    c.index.result.now (c.index.ensures ∙ ap (λ drafts. get_or drafts places.segment c.index.result.now) c.requires.seen.drafts)

pub returns-then-has-clause-fault : goal.returns-then-has-clause-fault
returns-then-has-clause-fault c =
    let places = c.in_ok-places.places in
    judged_there c.args.products.now c.args.table.now c.args.k places.segment places.product c.in_ok-places.ensures.segment c.in_ok-places.ensures.product
    c.index.result.now (c.index.ensures ∙ ap (λ drafts. get_or drafts places.segment c.index.result.now) c.requires.seen.drafts)
    true (sym c.has.ensures ∙ c.if-has.true)

pub returns-in_err-attraction-clause-fault : goal.returns-in_err-attraction-clause-fault
returns-in_err-attraction-clause-fault c =
    let places = c.in_ok-places.places in
    let p = err_from_is_err_and c.from_residual-in_err-attraction.result c.from_residual-in_err-attraction.ensures.1 in
    rw (p.1, p.2)
    (judged_there c.args.products.now c.args.table.now c.args.k places.segment places.product c.in_ok-places.ensures.segment c.in_ok-places.ensures.product
    c.index.result.now (c.index.ensures ∙ ap (λ drafts. get_or drafts places.segment c.index.result.now) c.requires.seen.drafts)
    false (sym c.has.ensures ∙ c.if-has.false)
    ∙ ap (number_fault 0 MOST_AMOUNT) (sym c.cell.ensures) ∙ c.in_err-attraction.ensures.fault)

pub returns-clause-sound : goal.returns-clause-sound
returns-clause-sound c =
    let places = c.in_ok-places.places in
    judged_there c.args.products.now c.args.table.now c.args.k places.segment places.product c.in_ok-places.ensures.segment c.in_ok-places.ensures.product
    c.index.result.now (c.index.ensures ∙ ap (λ drafts. get_or drafts places.segment c.index.result.now) c.requires.seen.drafts)
    false (sym c.has.ensures ∙ c.if-has.false)
    ∙ ap (number_fault 0 MOST_AMOUNT) (sym c.cell.ensures) ∙ c.in_ok-attraction.ensures.sound

use Rattle.std.proofs.Common.{◌≡◌, ◌∙◌, ◌*◌, ◌≤◌, sym, ap, subst, length, map, set, get_or, sum_by, Some, arith}
use Rattle.std.specs.List.{AllPairs}
use Rattle.offer_model.specs.declared.ranges.TheConstants.{MOST_SEGMENTS}
use Rattle.catalogue.specs.Drafts.{DraftData}
use Rattle.catalogue.specs.SegmentTables.{segment_text, row_size, row_weight}
use Rattle.catalogue.specs.SegmentDrafts.{drafts_before, BeginOthers}
use Rattle.catalogue.proofs.SegmentLemmas.{heads_kept}
use Rattle.catalogue.proofs.SegmentPairLemmas.{rows_few, place_inside, pair_fresh, pair_drafts, pair_counted, pair_known}
use Rattle.catalogue.proofs.segment_rows.put_attraction.Goals as goal

pub overflow_add-result : goal.overflow_add-result
overflow_add-result c =
    omega (arith, rows_few c.args.products.now c.args.table.now c.args.k c.requires.products c.requires.seen.few c.requires.seen.counted)

pub put-requires-clause-product : goal.put-requires-clause-product
put-requires-clause-product c =
    place_inside c.args.products.now c.args.table.now c.args.k c.in-Ok.pair.places.segment c.in-Ok.pair.places.product c.in-Ok.ensures.segment c.in-Ok.ensures.product
    c.index_mut.result.now
    (c.index_mut.ensures.value ∙ ap (λ drafts. get_or drafts c.in-Ok.pair.places.segment c.index_mut.result.now) c.requires.seen.drafts)

pub returns-clause-seen : goal.returns-clause-seen
returns-clause-seen c =
    let rows = c.args.products.now in
    let unit = c.args.unit in
    let table = c.args.table.now in
    let k = c.args.k in
    let g = c.in-Ok.pair.places.segment in
    let i = c.in-Ok.pair.places.product in
    let segment = c.in-Ok.ensures.segment in
    let product = c.in-Ok.ensures.product in
    let was = c.requires.seen in
    let draft : DraftData = c.index_mut.result.now in
    let read : draft ≡ get_or (drafts_before rows table k) g draft
    = c.index_mut.ensures.value ∙ ap (λ drafts. get_or drafts g c.index_mut.result.now) was.drafts in
    let put : c.put.new.self ≡ record draft { attract = set draft.attract i (Some (row_weight table k)) }
    = c.put.ensures ∙ ap (λ v. record draft { attract = set draft.attract i (Some v) }) c.in-Ok.ensures.attraction in
    let fresh = pair_fresh rows table k g i segment product c.in-Ok.ensures.sound in
    let heads = sym (heads_kept table k c.requires.pair) in
    record {
      names = was.names ∙ ap (map (segment_text table)) heads;
      once = subst (AllPairs (BeginOthers table)) heads was.once;
      known = pair_known rows table k g i segment product c.requires.pair was.known;
      drafts = (λ j. set (was.drafts j) g (put j)) ∙ pair_drafts rows table k g i segment product draft read c.requires.products was.once c.requires.pair fresh;
      few = subst (λ hs. length hs ≤ MOST_SEGMENTS) heads was.few;
      counted = pair_counted rows table k g i segment product draft read c.requires.products was.once c.requires.pair fresh was.counted;
      sizes = was.sizes ∙ ap (sum_by (λ n. row_size table n * unit)) heads;
      small = was.small;
    }

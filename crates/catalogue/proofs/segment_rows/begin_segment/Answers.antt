use Rattle.std.proofs.Common.{◌≡◌, ◌∙◌, ◌+◌, ◌*◌, ◌≤◌, ◌++◌, ◌∷◌, [], sym, subst, false, length, replicate, None, arith}
use Rattle.offer_model.specs.declared.ranges.TheConstants.{MOST_AMOUNT}
use Rattle.offer_model.specs.Validity.{IsPositiveAmount}
use Rattle.table_reader.specs.Tables.{is_among}
use Rattle.catalogue.specs.SegmentTables.{segment_text, row_size, row_weight, sizes_before}
use Rattle.catalogue.proofs.SegmentStepLemmas.{head_weight, head_fresh, head_names, head_few, head_sizes, head_small, head_once, head_known, head_drafts, head_counted}
use Rattle.catalogue.proofs.SegmentPairLemmas.{rows_few}
use Rattle.catalogue.proofs.segment_rows.begin_segment.Goals as goal

pub overflow_add-result : goal.overflow_add-result
overflow_add-result c =
    omega (arith, rows_few c.args.products.now c.args.table.now c.args.k c.requires.products c.requires.seen.few c.requires.seen.counted)

pub begin-requires-clause-none : goal.begin-requires-clause-none
begin-requires-clause-none c =
    subst IsPositiveAmount (sym c.in-Ok.ensures.none)
    (head_weight c.args.products.now c.args.unit c.args.table.now c.args.k c.requires.products c.requires.head c.in-Ok.ensures.sound)

pub returns-clause-seen : goal.returns-clause-seen
returns-clause-seen c =
    let rows = c.args.products.now in
    let unit = c.args.unit in
    let table = c.args.table.now in
    let k = c.args.k in
    let valid = c.requires.products in
    let head = c.requires.head in
    let clean = c.in-Ok.ensures.sound in
    let was = c.requires.seen in
    let name : c.as_bytes.result.now ≡ segment_text table k = c.as_bytes.ensures.value ∙ c.in-Ok.ensures.name in
    let fresh : is_among c.as_bytes.result.now c.args.seen.now.names ≡ false
    = (λ i. is_among (name i) (was.names i)) ∙ head_fresh rows unit table k valid head clean in
    let draft : c.in_ok-draft.draft ≡ record { name = segment_text table k; size = row_size table k; none = row_weight table k; attract = replicate (length rows) None }
    = c.in_ok-draft.ensures
    ∙ (λ i. record {
      name = c.in-Ok.ensures.name i;
      size = c.in-Ok.ensures.size i;
      none = c.in-Ok.ensures.none i;
      attract = replicate (c.len.ensures.value i) None;
    }) in
    let sizes : c.args.seen.now.sizes + c.in-Ok.head.size * unit ≡ sizes_before unit table (k + 1)
    = (λ i. was.sizes i + c.in-Ok.ensures.size i * unit) ∙ sym (head_sizes rows unit table k valid head clean) in
    record {
      names = c.in_ok-insert.ensures ∙ rw fresh ((λ i. was.names i ++ name i ∷ []) ∙ sym (head_names rows unit table k valid head clean));
      once = head_once rows unit table k valid head clean was.once;
      known = head_known rows unit table k valid head clean was.known;
      drafts = c.in_ok-push.ensures.items ∙ (λ i. was.drafts i ++ draft i ∷ []) ∙ sym (head_drafts rows unit table k valid head clean was.known);
      few = head_few rows unit table k valid head clean;
      counted = head_counted rows unit table k valid head clean was.known was.counted;
      sizes = sizes;
      small = subst (λ n. n ≤ MOST_AMOUNT) (sym sizes) (head_small rows unit table k valid head clean);
    }

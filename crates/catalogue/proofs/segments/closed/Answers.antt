use Rattle.std.proofs.Common.{◌≡◌, ◌∙◌, ◌++◌, ◌∷◌, [], sym, ap, subst, All, get_or, arith}
use Rattle.std.proofs.lemmas.List.{map_more}
use Rattle.std.proofs.lemmas.List.Elements.{All-push}
use Rattle.offer_model.specs.Validity.{IsSegment}
use Rattle.catalogue.specs.Drafts.{segment_drafted}
use Rattle.catalogue.specs.SegmentTables.{NamedSegment}
use Rattle.catalogue.proofs.segments.closed.Goals as goal

pub drafts-preserved : goal.drafts-preserved
drafts-preserved c =
    let drafts = c.args.drafts.now in
    let draft = c.draft-item.result in
    let row = c.in_ok-close.field-0 in
    let value : row ≡ segment_drafted (get_or drafts c.drafts.draft-index draft) = c.in_ok-close.ensures.value ∙ ap segment_drafted c.draft-item.is in
    let pushed : c.push.new.self.items ≡ c.drafts.rows.items ++ row ∷ [] = c.in_ok-push.ensures.items in
    record {
      rows = pushed ∙ (λ i. c.drafts.invariant.rows i ++ value i ∷ []) ∙ sym (map_more segment_drafted drafts c.drafts.draft-index draft (omega arith));
      valid = subst (All (λ (named : NamedSegment). IsSegment named.segment)) (sym pushed)
          (All-push (λ (named : NamedSegment). IsSegment named.segment) c.drafts.rows.items row c.drafts.invariant.valid c.in_ok-close.ensures.valid);
    }

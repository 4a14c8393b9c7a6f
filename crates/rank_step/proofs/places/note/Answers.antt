use Rattle.std.proofs.Common.{◌≡◌, ◌∙◌, refl, sym, subst, arith, rules}
use Rattle.std.proofs.lemmas.List.{with_items_is}
use Rattle.std.proofs.lemmas.Option.{get_or_from_slice_get}
use Rattle.offer_model.specs.declared.products.Limit.TheVariants.{Total, Category, Ladder}
use Rattle.rank_step.specs.Caps.{limit_at, ArePlacesBelow}
use Rattle.rank_step.proofs.PlaceLemmas.{places_with_total, places_with_category, no_other}
use Rattle.rank_step.proofs.places.note.Goals as goal

pub returns-in-Total : goal.returns-in-Total
returns-in-Total c =
    let is : limit_at c.args.p.now c.args.k ≡ Total c.in-Total.field-0
    = get_or_from_slice_get c.args.p.now.limits c.args.k c.get.result.now (Ladder 0) (rw c.limits.ensures.value at c.get.ensures) ∙ c.in-Total.is in
    let below = subst (ArePlacesBelow c.args.p.now c.args.k) (sym c.at.view_is) c.requires.below in
    places_with_total c.args.p.now (record { total = c.at.inside.total; category = c.at.inside.category.items }) c.args.k c.in-Total.field-0
    c.limits.ensures.valid c.requires.place is below

pub returns-in-Category : goal.returns-in-Category
returns-in-Category c =
    let is : limit_at c.args.p.now c.args.k ≡ Category c.in-Category.category c.in-Category.field-1
    = get_or_from_slice_get c.args.p.now.limits c.args.k c.get.result.now (Ladder 0) (rw c.limits.ensures.value at c.get.ensures) ∙ c.in-Category.is in
    let below = subst (ArePlacesBelow c.args.p.now c.args.k) (sym c.at.view_is) c.requires.below in
    let held = c.at.inside.category.ok.0 in
    let each = below.each in
    let kept = c.note_category.ensures.each in
    let items = with_items_is c.at.inside.category c.note_category.new.places (omega arith) in
    rw items (places_with_category c.args.p.now (record { total = c.at.inside.total; category = c.at.inside.category.items })
    (record { total = c.at.inside.total; category = c.note_category.new.places }) c.args.k c.in-Category.category c.in-Category.field-1
    c.limits.ensures.valid c.requires.place is refl c.note_category.ensures.each (search rules) below)

pub returns-in_default : goal.returns-in_default
returns-in_default c = absurd (no_other c.args.p.now c.args.k c.get.result.now c.requires.kind c.requires.place
    (get_or_from_slice_get c.args.p.now.limits c.args.k c.get.result.now (Ladder 0) (rw c.limits.ensures.value at c.get.ensures))
    c.in_default.not-Total c.in_default.not-Category)

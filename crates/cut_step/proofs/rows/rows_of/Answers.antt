use Rattle.std.proofs.Common.{rules, ◌≡◌, ◌∙◌, ◌+◌, ℕ, List, refl, ap, sym, get_or, []}
use Rattle.std.proofs.Common.{take, ◌++◌, ◌∷◌, append-nil}
use Rattle.std.proofs.lemmas.Option.{get_or_from_slice_get}
use Rattle.std.proofs.lemmas.List.{take_more}
use Rattle.offer_model.specs.declared.products.Limit.{Limit}
use Rattle.offer_model.specs.declared.products.Limit.TheVariants.{Total, Category, Requires, Shelf, Ladder}
use Rattle.cut_step.proofs.rows.rows_of.Goals.{in-Requires+in_ok-push, in_default}
use Rattle.cut_step.specs.declared.rows.Row.{Row}
use Rattle.cut_step.specs.Closures.{rows_of}
use Rattle.cut_step.specs.Trees.{cap}
use Rattle.cut_step.proofs.rows.rows_of.Goals as goal

-- The limits up to a further one have its requirement last.
rows_of_more : (limits : List Limit) (limit : Limit) → rows_of (limits ++ limit ∷ []) ≡ rows_of limits ++ rows_of (limit ∷ [])
rows_of_more [] limit = refl
rows_of_more (Requires a b ∷ limits) limit = ap (λ (rows : List Row). record { first = a; second = b } ∷ rows) (rows_of_more limits limit)
rows_of_more (Total cap ∷ limits) limit = rows_of_more limits limit
rows_of_more (Category d cap ∷ limits) limit = rows_of_more limits limit
rows_of_more (Shelf space ∷ limits) limit = rows_of_more limits limit
rows_of_more (Ladder l ∷ limits) limit = rows_of_more limits limit

no_row : (limit : Limit) → ((a b : ℕ) → limit ≡ Requires a b → ⊥) → rows_of (limit ∷ []) ≡ []
no_row (Requires a b) h = absurd (h a b refl)
no_row (Total cap) h = refl
no_row (Category d cap) h = refl
no_row (Shelf space) h = refl
no_row (Ladder l) h = refl

pub loop-k-preserved : goal.loop-k-preserved
loop-k-preserved c =
    let x = c.get.result.now in
    let xs = c.args.limits.now.items in
    let here : get_or xs c.loop-k.k x ≡ x = get_or_from_slice_get xs c.loop-k.k x x c.get.ensures in
    let more : take (c.loop-k.k + 1) xs ≡ take c.loop-k.k xs ++ x ∷ [] = take_more xs c.loop-k.k x (search rules) ∙ ap (λ (y : Limit). take c.loop-k.k xs ++ y ∷ []) here in
    let whole : rows_of (take (c.loop-k.k + 1) xs) ≡ rows_of (take c.loop-k.k xs) ++ rows_of (x ∷ []) = ap rows_of more ∙ rows_of_more (take c.loop-k.k xs) x in
    elim c.match-get.branch [
      | in-Requires+in_ok-push w ↦
          let last : rows_of (x ∷ []) ≡ record { first = w.in-Requires.first; second = w.in-Requires.second } ∷ [] = ap (λ (y : Limit). rows_of (y ∷ [])) w.in-Requires.is in
          rw w.rows-is ((w.in_ok-push.ensures {u = tt}).items ∙ rw (whole, last, c.loop-k.invariant) refl)
      | in_default w ↦ rw w.rows-is (c.loop-k.invariant ∙ rw (whole, no_row x w.in_default.not-Requires) (sym (append-nil _)))
    ]

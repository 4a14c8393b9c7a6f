-- Lists that a loop reads item by item.
use Rattle.std.proofs.Common.{◌≡◌, ℕ, List, ◌∷◌, drop, get_or, Some, sym, ◌∙◌, ap, ◌+◌}
use Rattle.std.specs.Prelude.{slice_get}
use Rattle.std.proofs.lemmas.Option.{slice_get_within, get_or_from_slice_get}
use Rattle.std.proofs.lemmas.List.{drop_more}

-- A list from a place on.
pub drop_at : {X : Type 0} (xs : List X) (k : ℕ) (x : X) → slice_get xs k ≡ Some x → drop k xs ≡ x ∷ drop (k + 1) xs
drop_at xs k x got =
    let inside = slice_get_within xs k x got in
    let here = get_or_from_slice_get xs k x x got in
    drop_more xs k x inside ∙ ap (λ z. z ∷ drop (k + 1) xs) here

-- The item of an equal list.
pub item_is : {X : Type 0} (xs ys : List X) (k : ℕ) (x d : X) → xs ≡ ys → slice_get xs k ≡ Some x → get_or ys k d ≡ x
item_is xs ys k x d e got = ap (λ z. get_or z k d) (sym e) ∙ get_or_from_slice_get xs k x d got

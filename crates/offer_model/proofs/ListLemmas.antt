-- Lists that a loop writes or reads item by item.
use Rattle.std.proofs.Common.{◌≡◌, ℕ, zero, suc, ◌+◌, ◌<◌, List, [], ◌∷◌, ◌++◌, length, take, get_or, Some, refl, sym, ◌∙◌, ap, subst, arith, below_more}
use Rattle.std.specs.Prelude.{slice_get}
use Rattle.std.proofs.Math.ListN.{get_or-append}
use Rattle.std.proofs.lemmas.Option.{slice_get_within, get_or_from_slice_get}
use Rattle.std.proofs.lemmas.List.{take_more, get_or_push}

-- Within a list the default plays no part.
pub get_or-any : {A : Type 0} (xs : List A) (i : ℕ) (d e : A) → i < length xs → get_or xs i e ≡ get_or xs i d
get_or-any [] i d e l = absurd (omega arith)
get_or-any (x ∷ xs) zero d e l = refl
get_or-any (x ∷ xs) (suc i) d e l = get_or-any xs i d e (omega arith)

-- One more item is copied.
pub copied_more : {X : Type 0} (xs copy new : List X) (i : ℕ) (x : X) → slice_get xs i ≡ Some x → copy ≡ take i xs → new ≡ copy ++ x ∷ [] → new ≡ take (i + 1) xs
copied_more xs copy new i x got was is =
    let inside = slice_get_within xs i x got in
    let more = take_more xs i x inside in
    let here = get_or_from_slice_get xs i x x got in
    is ∙ ap (λ z. z ++ x ∷ []) was ∙ ap (λ z. take i xs ++ z ∷ []) (sym here) ∙ sym more

-- What holds of each item of a list, with its place, and of a new item last, holds of each item of the longer list.
pub pushed_more : {X : Type 0} (P : ℕ → X → Type 0) (xs ys : List X) (z d : X) (i : ℕ) → ys ≡ xs ++ z ∷ []
    → length xs ≡ i → ((k : ℕ) → k < i → P k (get_or xs k d)) → P i z → (k : ℕ) → k < i + 1 → P k (get_or ys k d)
pushed_more P xs ys z d i e l below here = rw e (below_more (λ k. P k (get_or (xs ++ z ∷ []) k d)) i
    (λ k h. let inside : k < length xs = omega arith in
    subst (P k) (sym (get_or-append xs (z ∷ []) d k inside)) (below k h))
    (subst (P i) (sym (get_or_push xs z d i l)) here))

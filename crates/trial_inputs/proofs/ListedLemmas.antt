-- Lists that give an item for each place, or for each item of another list.
use Rattle.std.proofs.Common.{◌≡◌, ℕ, zero, suc, ◌+◌, ◌≤◌, List, [], ◌∷◌, ◌++◌, map, take, replicate, Some, refl, ap, sym, ◌∙◌, arith}
use Rattle.std.specs.Prelude.{slice_get, slice_index}
use Rattle.std.specs.List.{range_with_len}
use Rattle.std.proofs.lemmas.Option.{slice_get_within, get_or_from_slice_get}
use Rattle.std.proofs.lemmas.List.{map_more}
use Rattle.std.proofs.lemmas.List.FromFn.{map-range_with_len_more}

-- Functions that agree everywhere give the same list.
pub map-agree : {X Y : Type 0} (f g : X → Y) → ((x : X) → f x ≡ g x) → (xs : List X) → map f xs ≡ map g xs
map-agree f g same [] = refl
map-agree {X} {Y} f g same (x ∷ xs) = ap (λ (y : Y). y ∷ map f xs) (same x) ∙ ap (λ (ys : List Y). g x ∷ ys) (map-agree f g same xs)

-- One more item of a list by places.
pub listed_more : {X : Type 0} (f : ℕ → X) (xs ys : List X) (i : ℕ) (x : X) → xs ≡ map f (range_with_len 0 i) → x ≡ f i → ys ≡ xs ++ x ∷ []
    → ys ≡ map f (range_with_len 0 (i + 1))
listed_more {X} f xs ys i x was here is =
    is ∙ ap (λ (zs : List X). zs ++ x ∷ []) was ∙ ap (λ (z : X). map f (range_with_len 0 i) ++ z ∷ []) here ∙ sym (map-range_with_len_more f 0 i i (omega arith))

-- One more item of a list by the items of another.
pub mapped_more : {X Y : Type 0} (f : X → Y) (xs : List X) (ys zs : List Y) (i : ℕ) (x : X) (y : Y) → slice_get xs i ≡ Some x → ys ≡ map f (take i xs)
    → y ≡ f x → zs ≡ ys ++ y ∷ [] → zs ≡ map f (take (i + 1) xs)
mapped_more {X} {Y} f xs ys zs i x y got was here is =
    is ∙ ap (λ (ws : List Y). ws ++ y ∷ []) was ∙ ap (λ (w : Y). map f (take i xs) ++ w ∷ []) (here ∙ ap f (sym (get_or_from_slice_get xs i x x got)))
    ∙ sym (map_more f xs i x (slice_get_within xs i x got))

-- Where no item is above a number, none at any place is.
pub listed_most : (f : ℕ → ℕ) (m : ℕ) → ((i : ℕ) → f i ≤ m) → (n a i : ℕ) → slice_index (map f (range_with_len a n)) i ≤ m
listed_most f m most zero a i = omega arith
listed_most f m most (suc n) a zero = most a
listed_most f m most (suc n) a (suc i) = listed_most f m most n (a + 1) i

-- Zeros are 0 at every place.
pub zero_everywhere : (n i : ℕ) → slice_index (replicate n 0) i ≡ 0
zero_everywhere zero i = refl
zero_everywhere (suc n) zero = refl
zero_everywhere (suc n) (suc i) = zero_everywhere n i

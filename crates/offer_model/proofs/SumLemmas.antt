-- Sums over products: of equal terms, of bounded terms, of what is offered.
use Rattle.std.proofs.Common.{◌≡◌, ◌≢◌, ℕ, Bool, true, false, cond, List, length, set, get_or-set_same, get_or-set_other, refl, arith, suc, zero, ◌<◌, ◌≤◌, ◌*◌, ◌+◌, inl, inr}
use Rattle.std.specs.Prelude.{pos, ◌+ℤ◌, ◌-ℤ◌, ◌≤ℤ◌, ◌⊎◌, [], ◌∷◌, slice_index_or, sum_by}
use Rattle.std.proofs.lemmas.List.Sums.{sum_by-cons}
use Rattle.std.proofs.lemmas.Bool.{cases_eq}
use Rattle.std.proofs.lemmas.Int.{ints}
use Rattle.std.proofs.lemmas.Bool.Decides.{nat_tests}
use Rattle.std.proofs.Common.{eqb}
use lib.IntN.{ℤ}
use Rattle.offer_model.specs.Assortments.{offers, sum_below}
use Rattle.offer_model.specs.Prices.{int_sum_below}

-- ---- Equal terms, and none.

-- Sums of equal terms are equal.
pub sum_below-same : (n : ℕ) (f g : ℕ → ℕ) → ((i : ℕ) → i < n → f i ≡ g i) → sum_below n f ≡ sum_below n g
sum_below-same zero f g h = refl
sum_below-same (suc n) f g h =
    let before = sum_below-same n f g (λ i l. h i (omega arith)) in
    let here = h n (omega arith) in
    omega (arith, before, here)

-- The same of whole numbers.
pub int_sum_below-same : (n : ℕ) (f g : ℕ → ℤ) → ((i : ℕ) → i < n → f i ≡ g i) → int_sum_below n f ≡ int_sum_below n g
int_sum_below-same zero f g same = refl
int_sum_below-same (suc n) f g same = two (int_sum_below-same n f g (λ i l. same i (omega arith))) (same n (omega arith))
  where
    two : {a b c d : ℤ} → a ≡ b → c ≡ d → a +ℤ c ≡ b +ℤ d
    two e h = cc

-- A sum of zeros is 0.
pub sum_below-zeros : (n : ℕ) (f : ℕ → ℕ) → ((i : ℕ) → i < n → f i ≡ 0) → sum_below n f ≡ 0
sum_below-zeros zero f h = refl
sum_below-zeros (suc n) f h =
    let before = sum_below-zeros n f (λ i l. h i (omega arith)) in
    let here = h n (omega arith) in
    omega (arith, before, here)

-- The same of whole numbers.
pub int_sum_below-zeros : (n : ℕ) (f : ℕ → ℤ) → ((i : ℕ) → i < n → f i ≡ pos 0) → int_sum_below n f ≡ pos 0
int_sum_below-zeros zero f h = refl
int_sum_below-zeros (suc n) f h =
    let before = int_sum_below-zeros n f (λ i l. h i (omega arith)) in
    let here = h n (omega arith) in
    omega (arith, ints, before, here)

-- Where each term is the sum of two, so is the sum.
pub int_sum_below-add : (n : ℕ) (f g h : ℕ → ℤ) → ((i : ℕ) → i < n → f i ≡ g i +ℤ h i) → int_sum_below n f ≡ int_sum_below n g +ℤ int_sum_below n h
int_sum_below-add zero f g h e = omega (arith, ints)
int_sum_below-add (suc n) f g h e =
    let before = int_sum_below-add n f g h (λ i l. e i (omega arith)) in
    let here = e n (omega arith) in
    omega (arith, ints)

-- ---- Bounded terms.

-- A sum of n terms, each at most c, is at most n times c.
pub sum_most : (n c : ℕ) (f : ℕ → ℕ) → ((i : ℕ) → i < n → f i ≤ c) → sum_below n f ≤ n * c
sum_most zero c f h = omega arith
sum_most (suc n) c f h =
    let before = sum_most n c f (λ i l. h i (omega arith)) in
    let here = h n (omega arith) in
    omega arith

-- A sum over more products is no less.
pub sum_below_le : (m n : ℕ) (f : ℕ → ℕ) → m ≤ n → sum_below m f ≤ sum_below n f
sum_below_le m zero f l = let e : m ≡ 0 = omega arith in rw e (omega arith)
sum_below_le m (suc n) f l = by_place (λ h. sum_below_le m n f h) (cases_eq m (suc n))
  where
    by_place : (m ≤ n → sum_below m f ≤ sum_below n f) → ((m ≡ suc n) ⊎ (m ≢ suc n)) → sum_below m f ≤ sum_below (suc n) f
    by_place before (inl e) = rw e (omega arith)
    by_place before (inr ne) = let b = before (omega arith) in omega arith

-- ---- Sums over lists.

-- The first term of a sum stands alone, before the others.
pub sum_below-front : (n : ℕ) (f : ℕ → ℕ) → sum_below (suc n) f ≡ f 0 + sum_below n (λ i. f (suc i))
sum_below-front zero f = omega arith
sum_below-front (suc n) f = let before = sum_below-front n f in omega (arith, before)

-- A sum over the places of a list is the sum over its items.
pub sum_below-items : {X : Type 0} (f : X → ℕ) (xs : List X) (d : X) → sum_below (length xs) (λ i. f (slice_index_or xs i d)) ≡ sum_by f xs
sum_below-items f [] d = refl
sum_below-items f (x ∷ xs) d =
    let front = sum_below-front (length xs) (λ i. f (slice_index_or (x ∷ xs) i d)) in
    let rest = sum_below-items f xs d in
    let items = sum_by-cons f x xs in
    omega (arith, front, rest, items)

-- ---- One more product is offered.

-- It changes no sum over products before it.
pub sum_below-set_later : (n : ℕ) (x : List Bool) (i : ℕ) (f : ℕ → ℕ) → n ≤ i
    → sum_below n (λ j. cond (offers (set x i true) j) (f j) 0) ≡ sum_below n (λ j. cond (offers x j) (f j) 0)
sum_below-set_later zero x i f l = refl
sum_below-set_later (suc n) x i f l =
    let before = sum_below-set_later n x i f (omega arith) in
    let ne : n ≢ i = omega arith in
    rw (before, get_or-set_other x i n true false ne) refl

-- To a sum over products among which it is, it adds its own term.
pub sum_below-set : (n : ℕ) (x : List Bool) (i : ℕ) (f : ℕ → ℕ) → i < n → i < length x → offers x i ≡ false
    → sum_below n (λ j. cond (offers (set x i true) j) (f j) 0) ≡ sum_below n (λ j. cond (offers x j) (f j) 0) + f i
sum_below-set zero x i f l m o = absurd (omega arith)
sum_below-set (suc n) x i f l m o = by_place (λ l. sum_below-set n x i f l m o) (cases_eq n i)
  where
    by_place : (i < n → sum_below n (λ j. cond (offers (set x i true) j) (f j) 0) ≡ sum_below n (λ j. cond (offers x j) (f j) 0) + f i)
        → ((n ≡ i) ⊎ (n ≢ i))
        → sum_below (suc n) (λ j. cond (offers (set x i true) j) (f j) 0) ≡ sum_below (suc n) (λ j. cond (offers x j) (f j) 0) + f i
    by_place before (inl e) = rw (e, sum_below-set_later i x i f (omega arith), get_or-set_same x i true false m, o) (omega arith)
    by_place before (inr ne) =
        let b = before (omega arith) in
        rw (get_or-set_other x i n true false ne) (omega arith)

-- ---- Terms in order.

-- Where each term is no greater, the sum is no greater.
pub sum_mono : (n : ℕ) (f g : ℕ → ℤ) → ((i : ℕ) → i < n → f i ≤ℤ g i) → int_sum_below n f ≤ℤ int_sum_below n g
sum_mono zero f g h = omega (arith, ints)
sum_mono (suc n) f g h =
    let before = sum_mono n f g (λ i l. h i (omega arith)) in
    let here = h n (omega arith) in
    omega (arith, ints)

-- A sum that has one term: u at product a, where y is true there.
abbrev pub point : ℕ → (ℕ → Bool) → ℕ → ℕ → ℕ
point n y u a = sum_below n (λ i. cond (y i) (cond (eqb i a) u 0) 0)

-- The sum over the products at which y is true.
abbrev pub over : ℕ → (ℕ → Bool) → (ℕ → ℕ) → ℕ
over n y f = sum_below n (λ i. cond (y i) (f i) 0)

-- The sum of sums is the sum of both.
pub over_add : (n : ℕ) (y : ℕ → Bool) (f g : ℕ → ℕ) → over n y (λ i. f i + g i) ≡ over n y f + over n y g
over_add zero y f g = refl
over_add (suc n) y f g =
    let before = over_add n y f g in
    elim (y n) as (λ v. over n y (λ i. f i + g i) + cond v (f n + g n) 0 ≡ over n y f + cond v (f n) 0 + (over n y g + cond v (g n) 0))
    [ true ↦ omega arith | false ↦ omega arith ]

-- A factor of each term is one of the sum.
pub over_times : (n : ℕ) (y : ℕ → Bool) (u : ℕ) (f : ℕ → ℕ) → over n y (λ i. u * f i) ≡ u * over n y f
over_times zero y u f = omega arith
over_times (suc n) y u f =
    let before = over_times n y u f in
    elim (y n) as (λ v. over n y (λ i. u * f i) + cond v (u * f n) 0 ≡ u * (over n y f + cond v (f n) 0)) [ true ↦ omega arith | false ↦ omega arith ]

-- Equal terms have equal sums.
pub over_same : (n : ℕ) (y : ℕ → Bool) (f g : ℕ → ℕ) → ((i : ℕ) → f i ≡ g i) → over n y f ≡ over n y g
over_same zero y f g e = refl
over_same (suc n) y f g e = let before = over_same n y f g e in let here = e n in rw (before, here) refl

-- Prices that are raised and lowered, summed.
pub sum_moved : (n : ℕ) (y : ℕ → Bool) (price : ℕ → ℤ) (up down : ℕ → ℕ)
    → int_sum_below n (λ i. cond (y i) ((price i +ℤ pos (up i)) -ℤ pos (down i)) (pos 0)) +ℤ pos (over n y down)
    ≡ int_sum_below n (λ i. cond (y i) (price i) (pos 0)) +ℤ pos (over n y up)
sum_moved zero y price up down = omega (arith, ints)
sum_moved (suc n) y price up down =
    let before = sum_moved n y price up down in
    elim (y n) as (λ v. (int_sum_below n (λ i. cond (y i) ((price i +ℤ pos (up i)) -ℤ pos (down i)) (pos 0)) +ℤ cond v ((price n +ℤ pos (up n)) -ℤ pos (down n)) (pos 0))
    +ℤ pos (over n y down + cond v (down n) 0)
    ≡ int_sum_below n (λ i. cond (y i) (price i) (pos 0)) +ℤ cond v (price n) (pos 0) +ℤ pos (over n y up + cond v (up n) 0))
    [ true ↦ omega (arith, ints) | false ↦ omega (arith, ints) ]

-- The same of numbers from 0 on.
pub sum_le : (n : ℕ) (f g : ℕ → ℕ) → ((i : ℕ) → i < n → f i ≤ g i) → sum_below n f ≤ sum_below n g
sum_le zero f g h = omega arith
sum_le (suc n) f g h =
    let before = sum_le n f g (λ i l. h i (omega arith)) in
    let here = h n (omega arith) in
    omega arith

-- One more product keeps a sum of one term within it.
pub point_step : (s n a u : ℕ) (b : Bool) → (n ≤ a → s ≡ 0) → s ≤ u → s + cond b (cond (eqb n a) u 0) 0 ≤ u
point_step s n a u true h k = grind (arith, nat_tests)
point_step s n a u false h k = omega arith

-- Before its product the sum is 0.
pub point_none : (n : ℕ) (y : ℕ → Bool) (u a : ℕ) → n ≤ a → point n y u a ≡ 0
point_none zero y u a l = refl
point_none (suc n) y u a l =
    let before = point_none n y u a (omega arith) in
    let other : eqb n a ≡ false = grind (arith, nat_tests) in
    rw (before, other) (elim (y n) as (λ v. 0 + cond v (cond false u 0) 0 ≡ 0) [ true ↦ refl | false ↦ refl ])

-- It is at most its term.
pub point_le : (n : ℕ) (y : ℕ → Bool) (u a : ℕ) → point n y u a ≤ u
point_le zero y u a = omega arith
point_le (suc n) y u a = point_step (point n y u a) n a u (y n) (point_none n y u a) (point_le n y u a)

-- It is 0 where the product isn't among them.
pub point_false : (n : ℕ) (y : ℕ → Bool) (u a : ℕ) → y a ≡ false → point n y u a ≡ 0
point_false zero y u a h = refl
point_false (suc n) y u a h = let before = point_false n y u a h in grind (arith, nat_tests)

-- It is its term where the product is.
pub point_true : (n : ℕ) (y : ℕ → Bool) (u a : ℕ) → a < n → y a ≡ true → u ≤ point n y u a
point_true zero y u a l h = absurd (omega arith)
point_true (suc n) y u a l h = let before = point_true n y u a in grind (arith, nat_tests)

-- An amount that is carried over one row keeps the balance.
use Rattle.std.proofs.Common.{◌≡◌, ℕ, Bool, true, false, cond, List, length, refl, arith, ◌<◌, ◌≤◌, ◌+◌, ◌-◌, get_or, set, inl, inr, ◌≢◌, get_or-set_other, get_or-set_same}
use Rattle.std.specs.Prelude.{pos, ◌+ℤ◌, ◌-ℤ◌, slice_index}
use Rattle.std.proofs.lemmas.Int.{ints}
use Rattle.std.proofs.lemmas.Bool.Decides.{eqb_tells}
use lib.IntN.{ℤ}
use Rattle.offer_model.proofs.SumLemmas.{int_sum_below-add}
use Rattle.cut_step.specs.declared.rows.Row.{Row}
use Rattle.cut_step.specs.Closures.{first_of, second_of, price_at, sum_over}
use Rattle.cut_step.specs.Flows.{moved, IsBalanced, at, Carried, source_of, target_of}
use Rattle.cut_step.proofs.TotalLemmas.{at_same, at_other, sum_at}

-- What is carried, as a set sees it.
at_over : (y : ℕ → Bool) (i a : ℕ) (z : ℤ) → cond (y i) (at i a z) (pos 0) ≡ at i a (cond (y a) z (pos 0))
at_over y i a z = elim (eqb_tells i a) as (λ v. cond (y i) (at i a z) (pos 0) ≡ at i a (cond (y a) z (pos 0))) [
  | inl t ↦ rw t.1 (rw (at_same a z, at_same a (cond (y a) z (pos 0))) refl)
  | inr f ↦ let one = at_other i a z f.1 in let two = at_other i a (cond (y a) z (pos 0)) f.1 in rw (one, two) (elim (y i) as (λ v. cond v (pos 0) (pos 0) ≡ pos 0) [ true ↦ refl | false ↦ refl ])
]

cond_adds : (b : Bool) (u v p q : ℤ) → u ≡ (v -ℤ p) +ℤ q → cond b u (pos 0) ≡ cond b v (pos 0) +ℤ (cond b q (pos 0) -ℤ cond b p (pos 0))
cond_adds true u v p q e = omega (arith, ints)
cond_adds false u v p q e = omega (arith, ints)

-- What a set loses and gains where an amount is carried from one product to another.
pub over_carried : (n : ℕ) (y : ℕ → Bool) (r r' : List ℤ) (a b d : ℕ) → Carried r r' a b d → a < n → b < n
    → sum_over n y (price_at r') ≡ sum_over n y (price_at r) +ℤ (cond (y b) (pos d) (pos 0) -ℤ cond (y a) (pos d) (pos 0))
over_carried n y r r' a b d c la lb =
    let P : ℕ → ℤ = λ i. cond (y i) (at i b (pos d)) (pos 0) in
    let Q : ℕ → ℤ = λ i. cond (y i) (at i a (pos d)) (pos 0) in
    let whole = int_sum_below-add n (λ i. cond (y i) (price_at r' i) (pos 0)) (λ i. cond (y i) (price_at r i) (pos 0)) (λ i. P i -ℤ Q i)
    (λ i l. cond_adds (y i) (price_at r' i) (price_at r i) (at i a (pos d)) (at i b (pos d)) (c.is i)) in
    let parts = int_sum_below-add n (λ i. at i b (cond (y b) (pos d) (pos 0))) (λ i. P i -ℤ Q i) (λ i. at i a (cond (y a) (pos d) (pos 0)))
    (λ i l. let p = at_over y i b (pos d) in let q = at_over y i a (pos d) in omega (arith, ints, p, q)) in
    let up = sum_at n b (cond (y b) (pos d) (pos 0)) lb in
    let down = sum_at n a (cond (y a) (pos d) (pos 0)) la in
    omega (arith, ints, whole, parts, up, down)

-- What the rows bring, where one amount changes.
row_change : (b a : Bool) (back : Bool) (f d : ℕ) → (back ≡ true → d ≤ f)
    → (cond b (pos (cond back (f - d) (f + d))) (pos 0) -ℤ cond a (pos (cond back (f - d) (f + d))) (pos 0))
    ≡ (cond b (pos f) (pos 0) -ℤ cond a (pos f) (pos 0)) +ℤ (cond (cond back a b) (pos d) (pos 0) -ℤ cond (cond back b a) (pos d) (pos 0))
row_change true true true f d h = let l = h refl in omega (arith, ints)
row_change true false true f d h = let l = h refl in omega (arith, ints)
row_change false true true f d h = let l = h refl in omega (arith, ints)
row_change false false true f d h = omega (arith, ints)
row_change true true false f d h = omega (arith, ints)
row_change true false false f d h = omega (arith, ints)
row_change false true false f d h = omega (arith, ints)
row_change false false false f d h = omega (arith, ints)

cond_of : (y : ℕ → Bool) (back : Bool) (a b : ℕ) → y (cond back a b) ≡ cond back (y a) (y b)
cond_of y true a b = refl
cond_of y false a b = refl

same_off : (x z : ℤ) → x ≡ z → x ≡ z +ℤ pos 0
same_off x z e = omega (arith, ints)

-- What the rows bring to a set, where one amount changes.
moved_changed : (rows : List Row) (y : ℕ → Bool) (f : List ℕ) (k d : ℕ) (back : Bool) → k < length rows → length f ≡ length rows → (back ≡ true → d ≤ get_or f k 0)
    → moved (length rows) (first_of rows) (second_of rows) (slice_index (set f k (cond back (get_or f k 0 - d) (get_or f k 0 + d)))) y
    ≡ moved (length rows) (first_of rows) (second_of rows) (slice_index f) y
    +ℤ (cond (y (target_of rows k back)) (pos d) (pos 0) -ℤ cond (y (source_of rows k back)) (pos d) (pos 0))
moved_changed rows y f k d back l e h =
    let new : ℕ = cond back (get_or f k 0 - d) (get_or f k 0 + d) in
    let z : ℤ = cond (y (target_of rows k back)) (pos d) (pos 0) -ℤ cond (y (source_of rows k back)) (pos d) (pos 0) in
    let whole = int_sum_below-add (length rows)
    (λ j. cond (y (second_of rows j)) (pos (get_or (set f k new) j 0)) (pos 0) -ℤ cond (y (first_of rows j)) (pos (get_or (set f k new) j 0)) (pos 0))
    (λ j. cond (y (second_of rows j)) (pos (get_or f j 0)) (pos 0) -ℤ cond (y (first_of rows j)) (pos (get_or f j 0)) (pos 0))
    (λ j. at j k z)
    (λ j lj. elim (eqb_tells j k) as (λ v. (cond (y (second_of rows j)) (pos (get_or (set f k new) j 0)) (pos 0) -ℤ cond (y (first_of rows j)) (pos (get_or (set f k new) j 0)) (pos 0))
    ≡ (cond (y (second_of rows j)) (pos (get_or f j 0)) (pos 0) -ℤ cond (y (first_of rows j)) (pos (get_or f j 0)) (pos 0)) +ℤ at j k z) [
      | inl t ↦ let inside : k < length f = omega arith in
          rw (t.1, at_same k z, cond_of y back (first_of rows k) (second_of rows k), cond_of y back (second_of rows k) (first_of rows k)) (rw get_or-set_same (row_change (y (second_of rows k)) (y (first_of rows k)) back (get_or f k 0) d h))
      | inr ne ↦ let off = at_other j k z ne.1 in let n : j ≢ k = ne.1 in rw (off) (rw get_or-set_other (same_off _ _ refl))
    ]) in
    let sum = sum_at (length rows) k z l in
    omega (arith, ints, whole, sum)

-- An amount carried over one row, on or back, keeps the balance.
pub balanced_moved : (rows : List Row) (w r r' : List ℤ) (f : List ℕ) (k d : ℕ) (back : Bool) → k < length rows → length f ≡ length rows
    → first_of rows k < length w → second_of rows k < length w
    → (back ≡ true → d ≤ get_or f k 0) → Carried r r' (source_of rows k back) (target_of rows k back) d
    → IsBalanced rows w r f → IsBalanced rows w r' (set f k (cond back (get_or f k 0 - d) (get_or f k 0 + d)))
balanced_moved rows w r r' f k d back l e la lb h c b = record {
  is = λ y.
      let la' : source_of rows k back < length w = elim back as (λ v. source_of rows k v < length w) [ true ↦ lb | false ↦ la ] in
      let lb' : target_of rows k back < length w = elim back as (λ v. target_of rows k v < length w) [ true ↦ la | false ↦ lb ] in
      let left = over_carried (length w) y r r' (source_of rows k back) (target_of rows k back) d c la' lb' in
      let right = moved_changed rows y f k d back l e h in
      let was = b.is y in
      omega (arith, ints, left, right, was);
}

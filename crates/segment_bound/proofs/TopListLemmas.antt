-- The sum of the greatest numbers of a list: a sorted list gives it, and lists that are filled one by one.
use Rattle.std.proofs.Common.{◌≡◌, ℕ, zero, suc, ◌+◌, ◌-◌, ◌*◌, ◌<◌, ◌≤◌, Bool, true, false, cond, ltb, List, [], ◌∷◌, length, length-append, get_or, refl, sym, ap, ◌∙◌, subst, arith, add-one, ◌++◌, inl, inr}
use Rattle.std.proofs.lemmas.List.Elements.{All-push}
use Rattle.std.specs.Prelude.{sum_by, ◌⊎◌}
use Rattle.std.specs.List.Sorted.{IsPermutation, IsNonDecreasingBy}
use Rattle.std.proofs.lemmas.Bool.Decides.{nat_tests}
use Rattle.std.proofs.Math.Nat.{mul-le-mul_right}
use Rattle.std.specs.List.{All}
use Rattle.std.proofs.lemmas.List.Sorted.{sum_by-IsPermutation}
use Rattle.std.proofs.lemmas.List.Sums.{sum_by_push, sum_by-le}
use Rattle.offer_model.specs.Assortments.{sum_below}
use Rattle.offer_model.proofs.SumLemmas.{sum_below-zeros, sum_below-items, sum_below_le, sum_le}
use Rattle.segment_bound.specs.Tops.{IsTopSum, IsTopOf, Lists, with_some}
use Rattle.segment_bound.proofs.TopLemmas.{not_above, not_from}

-- ---- A sorted list.

abbrev pub number_at : List ℕ → ℕ → ℕ
number_at xs j = get_or xs j 0

-- The numbers from rank lo on.
abbrev pub upper : List ℕ → ℕ → ℕ → ℕ
upper xs lo j = cond (ltb j lo) 0 (number_at xs j)

pub upper_none : (xs : List ℕ) (lo m : ℕ) → m ≤ lo → sum_below m (upper xs lo) ≡ 0
upper_none xs lo zero l = refl
upper_none xs lo (suc m) l =
    let before = upper_none xs lo m (omega arith) in
    let here : upper xs lo m ≡ 0 = none m lo (number_at xs m) (omega arith) in
    omega (arith, before, here)
  where
    none : (j lo v : ℕ) → j < lo → cond (ltb j lo) 0 v ≡ 0
    none j lo v l = grind (arith, nat_tests)

pub upper_here : (xs : List ℕ) (lo k : ℕ) → lo ≤ k → number_at xs k ≡ upper xs lo k
upper_here xs lo k l = one k lo (number_at xs k) l
  where
    one : (j lo v : ℕ) → lo ≤ j → v ≡ cond (ltb j lo) 0 v
    one j lo v l = grind (arith, nat_tests)

pub upper_le : (xs : List ℕ) (lo m : ℕ) → sum_below m (upper xs lo) ≤ sum_below m (number_at xs)
upper_le xs lo m = sum_le m (upper xs lo) (number_at xs) (λ j l. one j lo (number_at xs j))
  where
    one : (j lo v : ℕ) → cond (ltb j lo) 0 v ≤ v
    one j lo v = grind (arith, nat_tests)

ranks_from : (m lo : ℕ) → sum_below m (λ j. cond (ltb j lo) 0 1) ≡ m - lo
ranks_from zero lo = omega arith
ranks_from (suc m) lo = let before = ranks_from m lo in let here = one m lo in omega (arith, before, here)
  where
    one : (m lo : ℕ) → (m - lo) + cond (ltb m lo) 0 1 ≡ suc m - lo
    one m lo = grind (arith, nat_tests)

split_here : (j lo v t : ℕ) → (j < lo → v ≤ t) → (lo ≤ j → t ≤ v) → cond (ltb j lo) 0 v ≡ t * cond (ltb j lo) 0 1 + (v - t)
split_here j lo v t a b = elim (side j lo) [ inl l ↦ low l | inr l ↦ high l ]
  where
    side : (j lo : ℕ) → (j < lo) ⊎ (lo ≤ j)
    side j lo = grind arith

    low : j < lo → cond (ltb j lo) 0 v ≡ t * cond (ltb j lo) 0 1 + (v - t)
    low l = let e : ltb j lo ≡ true = grind (arith, nat_tests) in let m = a l in rw e (omega arith)

    high : lo ≤ j → cond (ltb j lo) 0 v ≡ t * cond (ltb j lo) 0 1 + (v - t)
    high l = let e : ltb j lo ≡ false = grind (arith, nat_tests) in let m = b l in rw e (omega arith)

few_here : (j lo v t : ℕ) → (j < lo → v ≤ t) → cond (ltb t v) 1 0 ≤ cond (ltb j lo) 0 1
few_here j lo v t a = grind (arith, nat_tests)

enough_here : (j lo v t : ℕ) → (lo ≤ j → t ≤ v) → cond (ltb j lo) 0 1 ≤ cond (ltb v t) 0 1
enough_here j lo v t b = grind (arith, nat_tests)

split_all : (m lo t : ℕ) (f : ℕ → ℕ) → ((j : ℕ) → j < m → j < lo → f j ≤ t) → ((j : ℕ) → j < m → lo ≤ j → t ≤ f j)
    → sum_below m (λ j. cond (ltb j lo) 0 (f j)) ≡ t * sum_below m (λ j. cond (ltb j lo) 0 1) + sum_below m (λ j. f j - t)
split_all zero lo t f a b = omega arith
split_all (suc m) lo t f a b =
    let before = split_all m lo t f (λ j l. a j (omega arith)) (λ j l. b j (omega arith)) in
    let here = split_here m lo (f m) t (a m (omega arith)) (b m (omega arith)) in
    omega (arith, before, here)

-- Numbers of which those from rank lo on are at a cutoff or above, and the others at it or below.
cut_sum : (xs : List ℕ) (lo room t total : ℕ) → room ≡ length xs - lo → ((j : ℕ) → j < length xs → j < lo → number_at xs j ≤ t) → ((j : ℕ) → j < length xs → lo ≤ j → t ≤ number_at xs j)
    → total ≡ sum_below (length xs) (upper xs lo) → IsTopSum xs room total
cut_sum xs lo room t total e a b s =
    let ranks = ranks_from (length xs) lo in
    let room_is : sum_below (length xs) (λ j. cond (ltb j lo) 0 1) ≡ room = omega (arith, ranks, e) in
    let split = split_all (length xs) lo t (number_at xs) a b in
    let diff = sum_below-items (λ x. x - t) xs 0 in
    let ups = sum_below-items (λ x. cond (ltb t x) 1 0) xs 0 in
    let froms = sum_below-items (λ x. cond (ltb x t) 0 1) xs 0 in
    let few = sum_le (length xs) (λ j. cond (ltb t (number_at xs j)) 1 0) (λ j. cond (ltb j lo) 0 1) (λ j l. few_here j lo (number_at xs j) t (a j l)) in
    let enough = sum_le (length xs) (λ j. cond (ltb j lo) 0 1) (λ j. cond (ltb (number_at xs j) t) 0 1) (λ j l. enough_here j lo (number_at xs j) t (b j l)) in
    record {
      cutoff = t;
      sum = whole total (sum_below (length xs) (upper xs lo)) t (sum_below (length xs) (λ j. cond (ltb j lo) 0 1)) room (sum_below (length xs) (λ j. number_at xs j - t)) (sum_by (λ x. x - t) xs) s split room_is diff;
      few = omega (arith, few, room_is, ups);
      enough = λ p. omega (arith, enough, room_is, froms);
    }
  where
    whole : (total u t c room d d' : ℕ) → total ≡ u → u ≡ t * c + d → c ≡ room → d ≡ d' → total ≡ room * t + d'
    whole total u t c room d d' e f g h = rw (e, f, g, h) (omega arith)

all_sum : (xs : List ℕ) (room total : ℕ) → length xs ≤ room → total ≡ sum_below (length xs) (upper xs 0) → IsTopSum xs room total
all_sum xs room total l s =
    let split = split_all (length xs) 0 0 (number_at xs) (λ j m h. absurd (omega arith)) (λ j m h. omega arith) in
    let diff = sum_below-items (λ x. x - 0) xs 0 in
    let ups = sum_below-items (λ x. cond (ltb 0 x) 1 0) xs 0 in
    let ranks = ranks_from (length xs) 0 in
    let few = sum_le (length xs) (λ j. cond (ltb 0 (number_at xs j)) 1 0) (λ j. cond (ltb j 0) 0 1) (λ j m. few_here j 0 (number_at xs j) 0 (λ h. absurd (omega arith))) in
    record {
      cutoff = 0;
      sum = omega (arith, s, split, diff);
      few = omega (arith, few, ranks, ups, l);
      enough = λ p. absurd (omega arith);
    }

-- The upper numbers of a list that rises are the greatest, as many as there is room for.
pub sorted_top : (xs : List ℕ) (room lo total : ℕ) → (room < length xs → IsNonDecreasingBy (λ x. x) xs) → lo ≡ length xs - room → total ≡ sum_below (length xs) (upper xs lo) → IsTopSum xs room total
sorted_top xs room lo total rise e s = elim (side room (length xs)) [
  | inl l ↦ cut_sum xs lo room (number_at xs (lo - 1)) total (omega arith) (λ j m h. rise l j (lo - 1) 0 (omega arith) (omega arith)) (λ j m h. rise l (lo - 1) j 0 (omega arith) m) s
  | inr l ↦ all_sum xs room total l (let z : lo ≡ 0 = omega arith in subst (λ t. total ≡ sum_below (length xs) (upper xs t)) z s)
]
  where
    side : (room n : ℕ) → (room < n) ⊎ (n ≤ room)
    side room n = grind arith

-- The greatest of a list are those of any other order.
pub top_moved : (xs ys : List ℕ) (room total : ℕ) → IsPermutation xs ys → IsTopSum ys room total → IsTopSum xs room total
top_moved xs ys room total moved top =
    let t = top.cutoff in
    let a = sum_by-IsPermutation (λ x. x - t) xs ys moved in
    let b = sum_by-IsPermutation (λ x. cond (ltb t x) 1 0) xs ys moved in
    let d = sum_by-IsPermutation (λ x. cond (ltb x t) 0 1) xs ys moved in
    let sum = top.sum in
    let few = top.few in
    record { cutoff = t; sum = omega (arith, a, sum); few = omega (arith, b, few); enough = λ p. (let e = top.enough p in omega (arith, d, e)) }

-- The greatest of a list of numbers that a function gives.
pub top_of : (xs : List ℕ) (n : ℕ) (f : ℕ → ℕ) (room total : ℕ) → Lists n f xs → IsTopSum xs room total → IsTopOf n f room total
top_of xs n f room total lists top =
    let t = top.cutoff in
    let a = lists.sums (λ x. x - t) (omega arith) in
    let b = lists.sums (λ x. cond (ltb t x) 1 0) (not_above 0 t (omega arith)) in
    let sum = top.sum in
    let few = top.few in
    record {
      cutoff = t;
      sum = omega (arith, a, sum);
      few = omega (arith, b, few);
      enough = λ p. (let d = lists.sums (λ x. cond (ltb x t) 0 1) (not_from 0 t p) in let e = top.enough p in omega (arith, d, e));
    }

-- The greatest of other numbers with the same sums.
pub top_same : (m n : ℕ) (f g : ℕ → ℕ) (room total : ℕ) → ((h : ℕ → ℕ) → sum_below m (λ i. h (f i)) ≡ sum_below n (λ i. h (g i))) → IsTopOf m f room total → IsTopOf n g room total
top_same m n f g room total same top =
    let t = top.cutoff in
    let a = same (λ x. x - t) in
    let b = same (λ x. cond (ltb t x) 1 0) in
    let d = same (λ x. cond (ltb x t) 0 1) in
    let sum = top.sum in
    let few = top.few in
    record { cutoff = t; sum = omega (arith, a, sum); few = omega (arith, b, few); enough = λ p. (let e = top.enough p in omega (arith, d, e)) }

-- Where there is no room the sum is 0.
pub top_none : (n : ℕ) (f : ℕ → ℕ) → IsTopOf n f 0 0
top_none n f =
    let s = sum_below n f in
    let a = sum_below-zeros n (λ i. f i - sum_below n f) (λ i l. (let part = sum_below_le (suc i) n f (omega arith) in omega (arith, part))) in
    let b = sum_below-zeros n (λ i. cond (ltb (sum_below n f) (f i)) 1 0) (λ i l. not_above (f i) (sum_below n f) (let part = sum_below_le (suc i) n f (omega arith) in omega (arith, part))) in
    record { cutoff = sum_below n f; sum = omega (arith, a); few = omega (arith, b); enough = λ p. omega arith }

-- ---- Lists that are filled.

-- One more number goes into the list.
pub lists_push : (n : ℕ) (f : ℕ → ℕ) (xs : List ℕ) (x : ℕ) → Lists n f xs → x ≡ f n → Lists (n + 1) f (xs ++ x ∷ [])
lists_push n f xs x lists e = record {
  sums = λ h z. (let before = lists.sums h z in let more = sum_by_push h xs x in let here = ap h e in let next : sum_below (n + 1) (λ i. h (f i)) ≡ sum_below n (λ i. h (f i)) + h (f n) = rw add-one refl in omega (arith, before, more, here, next));
}

-- A 0 is left out.
pub lists_skip : (n : ℕ) (f : ℕ → ℕ) (xs : List ℕ) → Lists n f xs → f n ≡ 0 → Lists (n + 1) f xs
lists_skip n f xs lists e = record {
  sums = λ h z. (let before = lists.sums h z in let here = ap h e in let next : sum_below (n + 1) (λ i. h (f i)) ≡ sum_below n (λ i. h (f i)) + h (f n) = rw add-one refl in omega (arith, before, here, next, z));
}

-- A number goes into the list where it is above 0.
pub lists_some : (n : ℕ) (f : ℕ → ℕ) (xs : List ℕ) (x : ℕ) → Lists n f xs → x ≡ f n → Lists (n + 1) f (with_some xs x)
lists_some n f xs x lists e = by_test (ltb 0 x) refl
  where
    zero_of : (v : ℕ) → ltb 0 v ≡ false → v ≡ 0
    zero_of v e = grind (arith, nat_tests)

    by_test : (t : Bool) → ltb 0 x ≡ t → Lists (n + 1) f (with_some xs x)
    by_test true z = rw z (lists_push n f xs x lists e)
    by_test false z = rw z (lists_skip n f xs lists (sym e ∙ zero_of x z))

-- It stays in its range, and is one longer at most.
pub small_some : (M : ℕ) (xs : List ℕ) (x : ℕ) → All (λ v. v ≤ M) xs → x ≤ M → All (λ v. v ≤ M) (with_some xs x)
small_some M xs x small l = elim (ltb 0 x) as (λ t. All (λ v. v ≤ M) (cond t (xs ++ x ∷ []) xs)) [ true ↦ All-push (λ v. v ≤ M) xs x small l | false ↦ small ]

pub few_some : (xs : List ℕ) (x n : ℕ) → length xs ≤ n → length (with_some xs x) ≤ n + 1
few_some xs x n l = elim (ltb 0 x) as (λ t. length (cond t (xs ++ x ∷ []) xs) ≤ n + 1) [ true ↦ (let e = length-append xs (x ∷ []) in omega (arith, e, l)) | false ↦ omega (arith, l) ]

zeros_after : (h f : ℕ → ℕ) (n m : ℕ) → h 0 ≡ 0 → ((j : ℕ) → n ≤ j → j < n + m → f j ≡ 0) → sum_below (n + m) (λ i. h (f i)) ≡ sum_below n (λ i. h (f i))
zeros_after h f n zero z rest = ap (λ k. sum_below k (λ i. h (f i))) (omega arith)
zeros_after h f n (suc m) z rest =
    let before = zeros_after h f n m z (λ j a b. rest j a (omega arith)) in
    let here : h (f (n + m)) ≡ 0 = ap h (rest (n + m) (omega arith) (omega arith)) ∙ z in
    let next : n + suc m ≡ suc (n + m) = omega arith in
    rw next (omega (arith, before, here))

-- What follows is 0.
pub lists_rest : (n m : ℕ) (f : ℕ → ℕ) (xs : List ℕ) → Lists n f xs → n ≤ m → ((j : ℕ) → n ≤ j → j < m → f j ≡ 0) → Lists m f xs
lists_rest n m f xs lists l rest = record {
  sums = λ h z. lists.sums h z ∙ (sym (zeros_after h f n (m - n) z (λ j a b. rest j a (omega arith))) ∙ ap (λ k. sum_below k (λ i. h (f i))) whole);
}
  where
    whole : n + (m - n) ≡ m
    whole = omega arith

-- ---- The loop over a sorted list.

-- One more of them fits.
pub number_le : (xs : List ℕ) (k total M : ℕ) (lo : ℕ) → length xs ≤ 256 → All (λ x. x ≤ M) xs → k < length xs → lo ≤ k → total ≡ sum_below k (upper xs lo) → total + number_at xs k ≤ 256 * M
number_le xs k total M lo few small l from e =
    let up : number_at xs k ≡ upper xs lo k = upper_here xs lo k from in
    let le = upper_le xs lo (suc k) in
    let part = sum_below_le (suc k) (length xs) (number_at xs) (omega arith) in
    let items = sum_below-items (λ x. x) xs 0 in
    let all = sum_by-le (λ x. x) M xs small in
    let most : length xs * M ≤ 256 * M = mul-le-mul_right M few in
    omega (arith, up, le, part, items, all, most, e)

-- What the numbers from a rank on sum to is no more than all.
pub upper_most : (xs ys : List ℕ) (lo total : ℕ) → IsPermutation xs ys → total ≡ sum_below (length ys) (upper ys lo) → total ≤ sum_by (λ x. x) xs
upper_most xs ys lo total moved e =
    let le = upper_le ys lo (length ys) in
    let items = sum_below-items (λ x. x) ys 0 in
    let same = sum_by-IsPermutation (λ x. x) xs ys moved in
    omega (arith, le, items, same, e)

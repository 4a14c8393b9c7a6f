-- The sum of the greatest numbers: no choice that has room has more, some choice has as much, and a sorted list gives it.
use Rattle.std.proofs.Common.{◌≡◌, ◌≢◌, ℕ, zero, suc, ◌+◌, ◌-◌, ◌*◌, ◌<◌, ◌≤◌, Bool, true, false, cond, ltb, eqb, refl, sym, ap, ◌∙◌, subst, arith, inl, inr}
use Rattle.std.specs.Prelude.{◌⊎◌}
use Rattle.std.proofs.lemmas.Bool.Decides.{nat_tests}
use Rattle.std.proofs.lemmas.Bool.{cases_eq}
use Rattle.std.proofs.Math.Nat.{mul-le-mul_left}
use Rattle.offer_model.specs.Assortments.{sum_below}
use Rattle.offer_model.proofs.SumLemmas.{sum_below-same}
use Rattle.segment_bound.specs.Tops.{IsTopOf}

-- ---- No choice has more.

no_more_here : (s : Bool) (v t : ℕ) → cond s v 0 ≤ t * cond s 1 0 + (v - t)
no_more_here true v t = omega arith
no_more_here false v t = omega arith

no_more_below : (n : ℕ) (s : ℕ → Bool) (f : ℕ → ℕ) (t : ℕ) → sum_below n (λ i. cond (s i) (f i) 0) ≤ t * sum_below n (λ i. cond (s i) 1 0) + sum_below n (λ i. f i - t)
no_more_below zero s f t = omega arith
no_more_below (suc n) s f t =
    let before = no_more_below n s f t in
    let here = no_more_here (s n) (f n) t in
    omega (arith, before, here)

-- A choice that has room sums to no more than the greatest.
pub top_most : (n : ℕ) (s : ℕ → Bool) (f : ℕ → ℕ) (room total : ℕ) → IsTopOf n f room total → sum_below n (λ i. cond (s i) 1 0) ≤ room → sum_below n (λ i. cond (s i) (f i) 0) ≤ total
top_most n s f room total top few =
    let e = top.sum in
    let h = no_more_below n s f top.cutoff in
    let m : top.cutoff * sum_below n (λ i. cond (s i) 1 0) ≤ top.cutoff * room = mul-le-mul_left top.cutoff few in
    omega (arith, e, h, m)

-- ---- Some choice has as much.

-- A choice with room that sums to this, of numbers above 0.
pub record IsChoice (n : ℕ) (f : ℕ → ℕ) (room total : ℕ) : Type 0 where
  pub picks : ℕ → Bool
  pub few : sum_below n (λ i. cond (picks i) 1 0) ≤ room
  pub sum : sum_below n (λ i. cond (picks i) (f i) 0) ≡ total
  pub some : (i : ℕ) → picks i ≡ true → 0 < f i

-- The choice with another answer at n.
abbrev but_at : ℕ → Bool → (ℕ → Bool) → ℕ → Bool
but_at n b s i = cond (eqb i n) b (s i)

but_here : (n : ℕ) (b : Bool) (s : ℕ → Bool) → but_at n b s n ≡ b
but_here n b s = let e : eqb n n ≡ true = grind (arith, nat_tests) in rw e refl

but_other : (n i : ℕ) (b : Bool) (s : ℕ → Bool) → i ≢ n → but_at n b s i ≡ s i
but_other n i b s ne = let e : eqb i n ≡ false = grind (arith, nat_tests) in rw e refl

but_below : (n : ℕ) (b : Bool) (s : ℕ → Bool) (f : ℕ → ℕ) → sum_below n (λ i. cond (but_at n b s i) (f i) 0) ≡ sum_below n (λ i. cond (s i) (f i) 0)
but_below n b s f = sum_below-same n (λ i. cond (but_at n b s i) (f i) 0) (λ i. cond (s i) (f i) 0) (λ i l. ap (λ t. cond t (f i) 0) (but_other n i b s (omega arith)))

but_some : (n : ℕ) (b : Bool) (s : ℕ → Bool) (f : ℕ → ℕ) → (b ≡ true → 0 < f n) → ((i : ℕ) → s i ≡ true → 0 < f i) → (i : ℕ) → but_at n b s i ≡ true → 0 < f i
but_some n b s f h g i e = elim (cases_eq i n) [
  | inl same ↦ subst (λ j. 0 < f j) (sym same) (h (sym (but_here n b s) ∙ (ap (but_at n b s) (sym same) ∙ e)))
  | inr other ↦ g i (sym (but_other n i b s other) ∙ e)
]

-- One more number that is taken, and one that isn't.
with_one : (n : ℕ) (f : ℕ → ℕ) (room room' total total' : ℕ) → IsChoice n f room' total' → room ≡ suc room' → total ≡ total' + f n → 0 < f n → IsChoice (suc n) f room total
with_one n f room room' total total' c e h some =
    let few = c.few in
    let sum = c.sum in
    let here = but_here n true c.picks in
    let one : ◌≡◌ {A = ℕ} (cond (but_at n true c.picks n) 1 0) 1 = ap (λ t. cond t 1 0) here in
    let own : cond (but_at n true c.picks n) (f n) 0 ≡ f n = ap (λ t. cond t (f n) 0) here in
    let a = but_below n true c.picks (λ i. 1) in
    let b = but_below n true c.picks f in
    record {
      picks = but_at n true c.picks;
      few = omega (arith, few, one, a, e);
      sum = omega (arith, sum, own, b, h);
      some = but_some n true c.picks f (λ t. some) c.some;
    }

without_one : (n : ℕ) (f : ℕ → ℕ) (room total total' : ℕ) → IsChoice n f room total' → total ≡ total' → IsChoice (suc n) f room total
without_one n f room total total' c h =
    let few = c.few in
    let sum = c.sum in
    let here = but_here n false c.picks in
    let one : ◌≡◌ {A = ℕ} (cond (but_at n false c.picks n) 1 0) 0 = ap (λ t. cond t 1 0) here in
    let own : cond (but_at n false c.picks n) (f n) 0 ≡ 0 = ap (λ t. cond t (f n) 0) here in
    let a = but_below n false c.picks (λ i. 1) in
    let b = but_below n false c.picks f in
    record {
      picks = but_at n false c.picks;
      few = omega (arith, few, one, a);
      sum = omega (arith, sum, own, b, h);
      some = but_some n false c.picks f (λ t. absurd cc) c.some;
    }

above_at_least : (n t : ℕ) (f : ℕ → ℕ) → sum_below n (λ i. cond (ltb t (f i)) 1 0) ≤ sum_below n (λ i. cond (ltb (f i) t) 0 1)
above_at_least zero t f = omega arith
above_at_least (suc n) t f =
    let before = above_at_least n t f in
    let here : cond (ltb t (f n)) 1 0 ≤ cond (ltb (f n) t) 0 1 = one t (f n) in
    omega (arith, before, here)
  where
    one : (t v : ℕ) → cond (ltb t v) 1 0 ≤ cond (ltb v t) 0 1
    one t v = grind (arith, nat_tests)

-- ---- Tests at a cutoff.

pub not_above : (v t : ℕ) → v ≤ t → ◌≡◌ {A = ℕ} (cond (ltb t v) 1 0) 0
not_above v t l = grind (arith, nat_tests)

pub is_above : (v t : ℕ) → t < v → ◌≡◌ {A = ℕ} (cond (ltb t v) 1 0) 1
is_above v t l = grind (arith, nat_tests)

pub not_from : (v t : ℕ) → v < t → ◌≡◌ {A = ℕ} (cond (ltb v t) 0 1) 0
not_from v t l = grind (arith, nat_tests)

pub is_from : (v t : ℕ) → t ≤ v → ◌≡◌ {A = ℕ} (cond (ltb v t) 0 1) 1
is_from v t l = grind (arith, nat_tests)

-- How many numbers are above the cutoff, and how many are from it on.
abbrev above : ℕ → ℕ → (ℕ → ℕ) → ℕ
above n t f = sum_below n (λ i. cond (ltb t (f i)) 1 0)

abbrev from : ℕ → ℕ → (ℕ → ℕ) → ℕ
from n t f = sum_below n (λ i. cond (ltb (f i) t) 0 1)

abbrev top_at : ℕ → ℕ → (ℕ → ℕ) → ℕ → ℕ
top_at n t f room = room * t + sum_below n (λ i. f i - t)

taken_total : (room r t S v : ℕ) → room ≡ suc r → t ≤ v → room * t + (S + (v - t)) ≡ r * t + S + v
taken_total room r t S v e l = rw e (omega arith)

-- The next number is taken.
take_next : (n t : ℕ) (f : ℕ → ℕ) (room r : ℕ) → 0 < t → room ≡ suc r → t ≤ f n → IsChoice n f r (top_at n t f r) → IsChoice (suc n) f room (top_at (suc n) t f room)
take_next n t f room r some e l c = with_one n f room r (top_at (suc n) t f room) (top_at n t f r) c e (taken_total room r t (sum_below n (λ i. f i - t)) (f n) e l) (omega arith)

-- It isn't.
skip_next : (n t : ℕ) (f : ℕ → ℕ) (room : ℕ) → f n ≤ t → IsChoice n f room (top_at n t f room) → IsChoice (suc n) f room (top_at (suc n) t f room)
skip_next n t f room l c = without_one n f room (top_at (suc n) t f room) (top_at n t f room) c (omega arith)

low_next : (n t : ℕ) (f : ℕ → ℕ) (room : ℕ) → f n < t → above (suc n) t f ≤ room → room ≤ from (suc n) t f
    → ((r : ℕ) → above n t f ≤ r → r ≤ from n t f → IsChoice n f r (top_at n t f r)) → IsChoice (suc n) f room (top_at (suc n) t f room)
low_next n t f room l few enough ih =
    let b = not_from (f n) t l in
    skip_next n t f room (omega (arith, l)) (ih room (omega (arith, few)) (omega (arith, enough, b)))

high_next : (n t : ℕ) (f : ℕ → ℕ) (room : ℕ) → 0 < t → t < f n → above (suc n) t f ≤ room → room ≤ from (suc n) t f
    → ((r : ℕ) → above n t f ≤ r → r ≤ from n t f → IsChoice n f r (top_at n t f r)) → IsChoice (suc n) f room (top_at (suc n) t f room)
high_next n t f room some l few enough ih =
    let a = is_above (f n) t l in
    let b = is_from (f n) t (omega (arith, l)) in
    take_next n t f room (room - 1) some (omega (arith, few, a)) (omega (arith, l)) (ih (room - 1) (omega (arith, few, a)) (omega (arith, enough, b)))

tie_skips : (n t : ℕ) (f : ℕ → ℕ) (room : ℕ) → f n ≡ t → above (suc n) t f ≤ room → room ≤ from n t f
    → ((r : ℕ) → above n t f ≤ r → r ≤ from n t f → IsChoice n f r (top_at n t f r)) → IsChoice (suc n) f room (top_at (suc n) t f room)
tie_skips n t f room e few enough ih = skip_next n t f room (omega (arith, e)) (ih room (omega (arith, few)) enough)

tie_takes : (n t : ℕ) (f : ℕ → ℕ) (room : ℕ) → 0 < t → f n ≡ t → room ≤ from (suc n) t f → from n t f < room
    → ((r : ℕ) → above n t f ≤ r → r ≤ from n t f → IsChoice n f r (top_at n t f r)) → IsChoice (suc n) f room (top_at (suc n) t f room)
tie_takes n t f room some e enough full ih =
    let b = is_from (f n) t (omega (arith, e)) in
    let order = above_at_least n t f in
    take_next n t f room (from n t f) some (omega (arith, enough, b, full)) (omega (arith, e)) (ih (from n t f) order (omega arith))

three : (v t : ℕ) → (v < t) ⊎ ((v ≡ t) ⊎ (t < v))
three v t = elim (cases_eq v t) [ inl e ↦ inr (inl e) | inr ne ↦ elim (lower v t) [ inl l ↦ inl (omega arith) | inr l ↦ inr (inr l) ] ]
  where
    lower : (v t : ℕ) → (v ≤ t) ⊎ (t < v)
    lower v t = grind arith

-- Where the numbers from the cutoff on fill the room, and those above it don't, a choice has the sum.
fill_room : (n t : ℕ) (f : ℕ → ℕ) (room : ℕ) → 0 < t → above n t f ≤ room → room ≤ from n t f → IsChoice n f room (top_at n t f room)
fill_room zero t f room some few enough = let e : room ≡ 0 = omega arith in record { picks = λ i. false; few = omega arith; sum = rw e (omega arith); some = λ i b. absurd cc }
fill_room (suc n) t f room some few enough =
    elim (three (f n) t) [
      | inl l ↦ low_next n t f room l few enough (λ r a b. fill_room n t f r some a b)
      | inr other ↦ elim other [
        | inl e ↦ elim (lower room (from n t f)) [
          | inl b ↦ tie_skips n t f room e few b (λ r a d. fill_room n t f r some a d)
          | inr b ↦ tie_takes n t f room some e enough b (λ r a d. fill_room n t f r some a d)
        ]
        | inr l ↦ high_next n t f room some l few enough (λ r a b. fill_room n t f r some a b)
      ]
    ]
  where
    lower : (v t : ℕ) → (v ≤ t) ⊎ (t < v)
    lower v t = grind arith

some_taken : (v : ℕ) → cond (ltb 0 v) v 0 ≡ v - 0
some_taken v = grind (arith, nat_tests)

above_zero : (v : ℕ) → ltb 0 v ≡ true → 0 < v
above_zero v e = grind (arith, nat_tests)

-- Where there is room for all, all are chosen.
fill_all : (n : ℕ) (f : ℕ → ℕ) (room total : ℕ) → total ≡ room * 0 + sum_below n (λ i. f i - 0) → above n 0 f ≤ room → IsChoice n f room total
fill_all n f room total e few = record {
  picks = λ i. ltb 0 (f i);
  few = few;
  sum = sum_below-same n (λ i. cond (ltb 0 (f i)) (f i) 0) (λ i. f i - 0) (λ i l. some_taken (f i)) ∙ (let z : total ≡ sum_below n (λ i. f i - 0) = omega (arith, e) in sym z);
  some = λ i b. above_zero (f i) b;
}

-- Some choice that has room sums to the greatest.
pub top_choice : (n : ℕ) (f : ℕ → ℕ) (room total : ℕ) → IsTopOf n f room total → IsChoice n f room total
top_choice n f room total top = at top.cutoff top.sum top.few top.enough
  where
    at : (t : ℕ) → total ≡ room * t + sum_below n (λ i. f i - t) → above n t f ≤ room → (0 < t → room ≤ from n t f) → IsChoice n f room total
    at zero e few enough = fill_all n f room total e few
    at (suc t) e few enough = subst (IsChoice n f room) (sym e) (fill_room n (suc t) f room (omega arith) few (enough (omega arith)))

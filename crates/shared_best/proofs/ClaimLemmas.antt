-- Claims: how they weigh, which of them are no task's, and what is below.
use Rattle.std.proofs.Common.{◌≡◌, ℕ, zero, suc, ◌+◌, ◌<◌, ◌≤◌, ◌⊎◌, ◌==◌, Bool, true, false, not, ◌||◌, nat_lt, cond, List, [], ◌∷◌, ◌++◌, sum_by, refl, ap, ◌∙◌, inl, inr, ⊎_elim, arith}
use mathlib.Core.Logic.{dite}
use native.Mathlib.Decide.{ℕ_discrete}
use Rattle.std.proofs.lemmas.Bool.Decides.{nat_tests}
use Rattle.std.proofs.lemmas.List.Sums.{sum_by-cons}
use Rattle.offer_model.specs.Assortments.{sum_below}
use Rattle.shared_best.specs.Views.{one_if_past, any_past, AllBelow}

-- ---- How many of the numbers below c are n or above.

past_step : (n c : ℕ) → c ≤ n + sum_below c (one_if_past n) → suc c ≤ n + (sum_below c (one_if_past n) + one_if_past n c)
past_step n c r = grind (arith, nat_tests)

-- Of the numbers below c, all but n are n or above.
pub below_past : (n c : ℕ) → c ≤ n + sum_below c (one_if_past n)
below_past n zero = omega arith
below_past n (suc c) = let r = below_past n c in past_step n c r

-- One number counts at most once.
pub past_le : (n x : ℕ) → one_if_past n x ≤ 1
past_le n x = grind (arith, nat_tests)

-- Where neither a is false nor b is true.
pub or_false : (a b : Bool) → (not a || b) ≡ false → (a ≡ true) × (b ≡ false)
or_false true b e = (refl, e)
or_false false b e = cc

-- Where no number is n or above, none is counted.
pub none_past : (n : ℕ) (xs : List ℕ) → any_past n xs ≡ false → sum_by (one_if_past n) xs ≡ 0
none_past n [] e = refl
none_past n (x ∷ xs) e =
    let t = or_false (nat_lt x n) (any_past n xs) e in
    let z : one_if_past n x ≡ 0 = ap (λ (b : Bool). cond b 0 1) t.0 in
    let r = none_past n xs t.1 in
    omega (arith, sum_by-cons (one_if_past n) x xs)

-- ---- One number.

-- 1 for x, else 0.
abbrev pub one_if_is : ℕ → ℕ → ℕ
one_if_is x y = cond (y == x) 1 0

-- A number that doesn't count for x is another.
pub one_or_none : (x y : ℕ) → (one_if_is x y ≡ 0) ⊎ (x ≡ y)
one_or_none x y = dite (ℕ_discrete x y) inr (λ n. inl (grind (arith, nat_tests)))

-- A number counts once for itself.
pub one_self : (x : ℕ) → one_if_is x x ≡ 1
one_self x = grind (arith, nat_tests)

once_step : (x n : ℕ) → cond (nat_lt x n) 1 0 + one_if_is x n ≡ cond (nat_lt x (suc n)) 1 0
once_step x n = grind (arith, nat_tests)

-- Each number below n stands once among them.
pub below_once : (x n : ℕ) → sum_below n (one_if_is x) ≡ cond (nat_lt x n) 1 0
below_once x zero = grind (arith, nat_tests)
below_once x (suc n) = let r = below_once x n in let s = once_step x n in omega arith

once_below : (x c : ℕ) → 0 < cond (nat_lt x c) 1 0 → x < c
once_below x c h = grind (arith, nat_tests)

-- What weighs no more than the numbers below c, however they are weighed, is below c.
pub all_below : (xs : List ℕ) (c : ℕ) → ((h : ℕ → ℕ) → sum_by h xs ≤ sum_below c h) → AllBelow c xs
all_below [] c le = tt
all_below (x ∷ xs) c le =
    let h = le (one_if_is x) in
    let o = one_self x in
    let s = sum_by-cons (one_if_is x) x xs in
    let b = below_once x c in
    (once_below x c (omega arith), all_below xs c (λ h. let l = le h in omega (arith, sum_by-cons h x xs)))

-- ---- Whether a claim is past the tasks.

or_last : (a : Bool) → (not a || false) ≡ not a
or_last true = refl
or_last false = refl

or_later : (a b c : Bool) → (a || (b || c)) ≡ ((a || b) || c)
or_later true b c = refl
or_later false b c = refl

-- After one more claim, where none was past the tasks.
pub any_past-push : (n : ℕ) (xs : List ℕ) (x : ℕ) → any_past n xs ≡ false → any_past n (xs ++ x ∷ []) ≡ not (nat_lt x n)
any_past-push n [] x e = or_last (nat_lt x n)
any_past-push n (y ∷ ys) x e =
    let t = or_false (nat_lt y n) (any_past n ys) e in
    ap (λ (b : Bool). not b || any_past n (ys ++ x ∷ [])) t.0 ∙ any_past-push n ys x t.1

-- Of two lists put together.
pub any_past-append : (n : ℕ) (xs ys : List ℕ) → any_past n (xs ++ ys) ≡ (any_past n xs || any_past n ys)
any_past-append n [] ys = refl
any_past-append n (x ∷ xs) ys = ap (λ (b : Bool). not (nat_lt x n) || b) (any_past-append n xs ys) ∙ or_later (not (nat_lt x n)) (any_past n xs) (any_past n ys)

past_or : (x n : ℕ) (b : Bool) → (not (nat_lt x n) || b) ≡ true → (n ≤ x) ⊎ (b ≡ true)
past_or x n true e = inr refl
past_or x n false e = inl (grind (arith, nat_tests))

-- Where some number is n or above and all are below c.
pub past_below : (n c : ℕ) (xs : List ℕ) → any_past n xs ≡ true → AllBelow c xs → n < c
past_below n c [] e a = absurd (cc)
past_below n c (x ∷ xs) e a = let l = a.0 in ⊎_elim (λ m. omega arith) (λ t. past_below n c xs t a.1) (past_or x n (any_past n xs) e)

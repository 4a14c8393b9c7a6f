-- Sums over products of which one more is offered, and over ladders.
use Rattle.std.proofs.Common.{◌≡◌, ◌≢◌, ℕ, zero, suc, Bool, true, false, cond, List, [], ◌∷◌, length, refl, ap, arith, ◌<◌, ◌≤◌, ◌+◌, inl, inr}
use Rattle.std.specs.Prelude.{pos, ◌+ℤ◌, ◌⊎◌, slice_set, slice_index_or}
use Rattle.std.proofs.lemmas.Int.{ints}
use Rattle.std.proofs.lemmas.Bool.{cases_eq}
use Rattle.std.proofs.lemmas.List.{get_or-set_same, get_or-set_other}
use lib.IntN.{ℤ}
use Rattle.offer_model.specs.declared.products.Limit.{Limit}
use Rattle.offer_model.specs.declared.products.Limit.TheVariants.{Total, Category, Requires, Shelf, Ladder}
use Rattle.offer_model.specs.Assortments.{offers, sum_below}
use Rattle.offer_model.specs.Problems.{ProblemData, product_count}
use Rattle.offer_model.specs.Prices.{Prices, int_sum_below, worth_of}
use Rattle.offer_model.specs.LeafBounds.{ladder_top, ladder_tops}
use Rattle.offer_model.proofs.SumLemmas.{sum_below-front}
use Rattle.table_steps.specs.LadderFits.{named_ladder}

-- ---- One more product is offered.

-- It changes no sum over products before it.
worth_before : (n : ℕ) (x : List Bool) (k : ℕ) (f : ℕ → ℤ) → n ≤ k
    → int_sum_below n (λ i. cond (offers (slice_set x k true) i) (f i) (pos 0)) ≡ int_sum_below n (λ i. cond (offers x i) (f i) (pos 0))
worth_before zero x k f l = refl
worth_before (suc n) x k f l =
    let before = worth_before n x k f (omega arith) in
    let ne : n ≢ k = omega arith in
    rw (before, get_or-set_other x k n true false ne) refl

-- To a sum over products among which it is, it adds its own term.
pub worth_more : (n : ℕ) (x : List Bool) (k : ℕ) (f : ℕ → ℤ) → k < n → k < length x → offers x k ≡ false
    → int_sum_below n (λ i. cond (offers (slice_set x k true) i) (f i) (pos 0)) ≡ int_sum_below n (λ i. cond (offers x i) (f i) (pos 0)) +ℤ f k
worth_more zero x k f l inside out = absurd (omega arith)
worth_more (suc n) x k f l inside out = by_place (cases_eq k n) (λ h. worth_more n x k f h inside out)
  where
    by_place : ((k ≡ n) ⊎ (k ≢ n))
        → (k < n → int_sum_below n (λ i. cond (offers (slice_set x k true) i) (f i) (pos 0)) ≡ int_sum_below n (λ i. cond (offers x i) (f i) (pos 0)) +ℤ f k)
        → int_sum_below (suc n) (λ i. cond (offers (slice_set x k true) i) (f i) (pos 0)) ≡ int_sum_below (suc n) (λ i. cond (offers x i) (f i) (pos 0)) +ℤ f k
    by_place (inr h) next =
        let before = next (omega arith) in
        let ne : n ≢ k = omega arith in
        rw (before, get_or-set_other x k n true false ne) (omega (arith, ints))
    by_place (inl e) next =
        let before = worth_before n x k f (omega arith) in
        let same : offers (slice_set x k true) n ≡ true = rw (← e) (get_or-set_same x k true false inside) in
        let none : offers x n ≡ false = rw (← e) out in
        rw (before, same, none, e) (omega (arith, ints))

-- To the worth it adds its price.
pub worth_set : (p : ProblemData) (at : Prices) (x : List Bool) (i : ℕ) → length x ≡ product_count p → i < product_count p → offers x i ≡ false
    → worth_of p at (slice_set x i true) ≡ worth_of p at x +ℤ at.price i
worth_set p at x i long l off =
    let s = worth_more (product_count p) x i at.price l (omega arith) off in
    omega (arith, ints)

-- ---- Over ladders.

-- The greatest numbers of all ladders, where each limit is one.
pub tops_sum : (p : ProblemData) (us : List ℕ) (limits : List Limit) (f : ℕ → ℕ)
    → ((k : ℕ) → k < length limits → slice_index_or limits k (Total 0) ≡ Ladder (f k))
    → ladder_tops p us limits ≡ sum_below (length limits) (λ k. ladder_top p us (f k) (product_count p))
tops_sum p us [] f h = refl
tops_sum p us (Ladder l ∷ limits) f h =
    let here : l ≡ f 0 = ap named_ladder (h 0 (omega arith)) in
    let top = ap (λ k. ladder_top p us k (product_count p)) here in
    let rest = tops_sum p us limits (λ k. f (suc k)) (λ k l. h (suc k) (omega arith)) in
    let front = sum_below-front (length limits) (λ k. ladder_top p us (f k) (product_count p)) in
    omega arith
tops_sum p us (Total cap ∷ limits) f h = let here = h 0 (omega arith) in cc
tops_sum p us (Category c cap ∷ limits) f h = let here = h 0 (omega arith) in cc
tops_sum p us (Shelf space ∷ limits) f h = let here = h 0 (omega arith) in cc
tops_sum p us (Requires a b ∷ limits) f h = let here = h 0 (omega arith) in cc

-- The assortment that offers nothing is feasible and gains nothing.
use Rattle.std.proofs.Common.{◌≡◌, ℕ, zero, suc, ◌*◌, ◌≤◌, ◌==◌, Bool, true, false, cond, List, replicate, refl, arith}
use Rattle.std.proofs.lemmas.List.{length-replicate}
use Rattle.offer_model.specs.declared.products.Limit.{Limit}
use Rattle.offer_model.specs.declared.products.Limit.TheVariants.{Total, Category, Requires, Shelf, Ladder}
use Rattle.offer_model.specs.Assortments.{offers, sum_below}
use Rattle.offer_model.specs.Problems.{ProblemData, product_count, product_at, margin_of, attraction_of, first_segment}
use Rattle.offer_model.specs.Limits.{Meets, IsFeasible}
use Rattle.offer_model.specs.Revenue.{sum_offered, own_gain}

-- The assortment of p's products that offers nothing.
abbrev pub nothing : ProblemData → List Bool
nothing p = replicate (product_count p) false

offers_none : (n i : ℕ) → offers (replicate n false) i ≡ false
offers_none zero i = refl
offers_none (suc n) zero = refl
offers_none (suc n) (suc i) = offers_none n i

sum_none : (n : ℕ) (y : ℕ → Bool) (f : ℕ → ℕ) → ((i : ℕ) → y i ≡ false) → sum_below n (λ i. cond (y i) (f i) 0) ≡ 0
sum_none zero y f h = refl
sum_none (suc n) y f h = let before = sum_none n y f h in let here = h n in rw (before, here) refl

sum_offered-nothing : (p : ProblemData) (f : ℕ → ℕ) → sum_offered p (nothing p) f ≡ 0
sum_offered-nothing p f = sum_none (product_count p) (offers (nothing p)) f (offers_none (product_count p))

-- What offers nothing gains nothing.
pub own_gain-nothing : (p : ProblemData) → own_gain p (nothing p) ≡ 0
own_gain-nothing p = sum_offered-nothing p (λ i. margin_of p i * attraction_of (first_segment p) i)

at_most : (p : ProblemData) (f : ℕ → ℕ) (cap : ℕ) → sum_offered p (nothing p) f ≤ cap
at_most p f cap = let e = sum_offered-nothing p f in omega arith

none_offered : (p : ProblemData) (i : ℕ) → offers (nothing p) i ≡ true → ⊥
none_offered p i h = let e = offers_none (product_count p) i in cc

-- No limit is broken by offering nothing.
meets_each : (p : ProblemData) (limit : Limit) → Meets p (nothing p) limit
meets_each p (Total cap) = at_most p (λ i. 1) cap
meets_each p (Category c cap) = at_most p (λ i. cond ((product_at p i).category == c) 1 0) cap
meets_each p (Requires a b) = λ h. absurd (none_offered p a h)
meets_each p (Shelf space) = at_most p (λ i. (product_at p i).space) space
meets_each p (Ladder l) = λ i j li lj d oi oj ki kj. absurd (none_offered p i oi)

-- What offers nothing keeps to all limits.
pub IsFeasible-nothing : (p : ProblemData) → IsFeasible p (nothing p)
IsFeasible-nothing p = (length-replicate (product_count p) false, λ k d l. meets_each p _)

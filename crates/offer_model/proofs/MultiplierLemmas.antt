-- Multipliers don't lower what an assortment is worth that keeps to the limits.
use Rattle.std.proofs.Common.{◌≡◌, ℕ, Bool, true, false, cond, List, [], ◌∷◌, length, refl, arith, suc, zero, ◌<◌, ◌≤◌, ◌*◌, ◌+◌, IsTrue, eqb, ap, ◌∙◌}
use Rattle.std.specs.Prelude.{slice_index, ◌≤ℤ◌}
use Rattle.std.specs.List.{AllByRecursion}
use Rattle.std.proofs.lemmas.Int.{ints}
use Rattle.std.proofs.Math.Nat.{mul-le-mul_left}
use Rattle.offer_model.specs.declared.products.Limit.{Limit}
use Rattle.offer_model.specs.declared.products.Limit.TheVariants.{Total, Category, Requires, Shelf, Ladder}
use Rattle.offer_model.specs.Assortments.{offers, sum_below}
use Rattle.offer_model.specs.Prices.{Prices, worth_of}
use Rattle.offer_model.specs.Problems.{ProblemData, product_count, product_at}
use Rattle.offer_model.specs.Limits.{Meets, IsFeasible}
use Rattle.offer_model.specs.LeafBounds.{relaxed, taken_off, added_to, allowed_in_all, taken_by, added_by, allowed_by, priced_limit_at, priced_limits, is_priced, MultipliersFit, multipliers_bound}
use Rattle.offer_model.specs.declared.node.Mark.{Mark}
use Rattle.offer_model.specs.Nodes.{Completes, settled_node}
use Rattle.std.specs.List.{filter}
use Rattle.std.proofs.lemmas.List.Elements.{recursion_from_All, All-from_recursion, All-get_or}
use Rattle.offer_model.proofs.CompletionLemmas.{worth_of-le, settled_completes}
use Rattle.offer_model.proofs.SumLemmas.{over, over_add, over_times, sum_le, sum_moved, point, point_le, point_false, point_true}

-- A product that is offered is one of the products.
pub offered_below : (y : List Bool) (c : ℕ) → offers y c ≡ true → (n : ℕ) → length y ≡ n → c < n
offered_below [] c h n l = cc
offered_below (b ∷ y) zero h n l = omega arith
offered_below (b ∷ y) (suc c) h n l = let k = offered_below y c h (length y) refl in omega arith

-- What is taken off where the first product is offered is added where the second is.
pub shift_cases : (p : ProblemData) (y : List Bool) (u a c : ℕ) (v : Bool) → offers y a ≡ v → length y ≡ product_count p → (IsTrue v → IsTrue (offers y c))
    → point (product_count p) (offers y) u a ≤ point (product_count p) (offers y) u c
shift_cases p y u a c false e l h = rw (point_false (product_count p) (offers y) u a e) (omega arith)
shift_cases p y u a c true e l h =
    let there : offers y c ≡ true = h refl in
    let inside : c < product_count p = offered_below y c there (product_count p) l in
    let one = point_le (product_count p) (offers y) u a in
    let other = point_true (product_count p) (offers y) u c inside there in
    omega arith

-- What keeps to a cap pays at most the price of the cap.
pub by_units : (n : ℕ) (y : ℕ → Bool) (u cap : ℕ) (use_of : ℕ → ℕ) → over n y use_of ≤ cap → over n y (λ i. u * use_of i) ≤ u * cap
by_units n y u cap use_of h =
    let e = over_times n y u use_of in
    let le : u * over n y use_of ≤ u * cap = mul-le-mul_left u h in
    omega arith

-- A sum of zeros over what is offered is 0.
pub over_none : (n : ℕ) (y : ℕ → Bool) → over n y (λ i. 0) ≡ 0
over_none zero y = refl
over_none (suc n) y = let k = over_none n y in elim (y n) as (λ v. over n y (λ i. 0) + cond v 0 0 ≡ 0) [ true ↦ omega arith | false ↦ omega arith ]

-- Sums over products and over limits in the one order and the other.
pub exchanged : (m n : ℕ) (y : ℕ → Bool) (f : ℕ → ℕ → ℕ) → over n y (λ i. sum_below m (λ k. f k i)) ≡ sum_below m (λ k. over n y (f k))
exchanged zero n y f = over_none n y
exchanged (suc m) n y f = over_add n y (λ i. sum_below m (λ k. f k i)) (f m) ∙ ap (λ z. z + over n y (f m)) (exchanged m n y f)

-- What one multiplier takes off an assortment that keeps to its limit, it allows and adds.
pub taken_by_le : (p : ProblemData) (y : List Bool) → length y ≡ product_count p → (limit : Limit) (u : ℕ) → Meets p y limit
    → over (product_count p) (offers y) (taken_by p limit u) ≤ allowed_by limit u + over (product_count p) (offers y) (added_by limit u)
taken_by_le p y l (Total cap) u m = let most = by_units (product_count p) (offers y) u cap (λ i. 1) m in omega arith
taken_by_le p y l (Category c cap) u m = let most = by_units (product_count p) (offers y) u cap (λ i. cond (eqb (product_at p i).category c) 1 0) m in omega arith
taken_by_le p y l (Shelf cap) u m = let most = by_units (product_count p) (offers y) u cap (λ i. (product_at p i).space) m in omega arith
taken_by_le p y l (Requires a c) u m = let k = shift_cases p y u a c (offers y a) refl l m in omega arith
taken_by_le p y l (Ladder k) u m = let e = over_none (product_count p) (offers y) in omega arith

-- The sum of sums is the sum of both.
pub sum_split : (m : ℕ) (f g : ℕ → ℕ) → sum_below m (λ k. f k + g k) ≡ sum_below m f + sum_below m g
sum_split zero f g = refl
sum_split (suc m) f g = let before = sum_split m f g in omega arith

-- What all multipliers take off such an assortment, they allow and add.
pub taken_le : (p : ProblemData) (y : List Bool) (us : List ℕ) → length y ≡ product_count p → ((k : ℕ) → k < length us → Meets p y (priced_limit_at p k))
    → over (product_count p) (offers y) (taken_off p us) ≤ allowed_in_all p us + over (product_count p) (offers y) (added_to p us)
taken_le p y us l m =
    let each = sum_le (length us) (λ k. over (product_count p) (offers y) (taken_by p (priced_limit_at p k) (slice_index us k)))
    (λ k. allowed_by (priced_limit_at p k) (slice_index us k) + over (product_count p) (offers y) (added_by (priced_limit_at p k) (slice_index us k)))
    (λ k h. taken_by_le p y l (priced_limit_at p k) (slice_index us k) (m k h)) in
    let parts = sum_split (length us) (λ k. allowed_by (priced_limit_at p k) (slice_index us k)) (λ k. over (product_count p) (offers y) (added_by (priced_limit_at p k) (slice_index us k))) in
    let t = exchanged (length us) (product_count p) (offers y) (λ k. taken_by p (priced_limit_at p k) (slice_index us k)) in
    let a = exchanged (length us) (product_count p) (offers y) (λ k. added_by (priced_limit_at p k) (slice_index us k)) in
    omega arith

-- The multipliers don't lower what an assortment is worth that keeps to the limits.
pub relaxed_raises : (p : ProblemData) (us : List ℕ) (b : Prices) (y : List Bool) → length y ≡ product_count p → ((k : ℕ) → k < length us → Meets p y (priced_limit_at p k))
    → worth_of p b y ≤ℤ worth_of p (relaxed p us b) y
relaxed_raises p us b y l m =
    let le = taken_le p y us l m in
    let e = sum_moved (product_count p) (offers y) b.price (added_to p us) (taken_off p us) in
    omega (arith, ints)

-- Limits that are picked from limits which are met are met.
pub filter_meets : (P : Limit → Type 0) (test : Limit → Bool) (limits : List Limit) → AllByRecursion P limits → AllByRecursion P (filter test limits)
filter_meets P test [] m = tt
filter_meets P test (limit ∷ limits) m = elim (test limit) as (λ v. AllByRecursion P (cond v (limit ∷ filter test limits) (filter test limits)))
    [ true ↦ (m.0, filter_meets P test limits m.1) | false ↦ filter_meets P test limits m.1 ]

-- The bound of multipliers is at least what a feasible completion is worth.
pub multipliers_hold : (p : ProblemData) (node : List Mark) (us : List ℕ) (at : Prices) (y : List Bool) → Completes node y → IsFeasible p y → MultipliersFit p us
    → worth_of p at y ≤ℤ multipliers_bound p node us at
multipliers_hold p node us at y c f k =
    let meets = All-from_recursion (Meets p y) (priced_limits p) (filter_meets (Meets p y) is_priced p.limits (recursion_from_All (Meets p y) p.limits f.1)) in
    let raised = relaxed_raises p us at y f.0 (λ i h. All-get_or (Meets p y) (priced_limits p) i (Ladder 0) (omega (arith, k.each)) meets) in
    let most = worth_of-le p (relaxed p us at) (settled_node p node) y (settled_completes p node y f c) in
    omega (arith, ints)

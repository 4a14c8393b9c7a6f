-- Sums over the views of a desk's places.
use Rattle.std.proofs.Common.{◌≡◌, ℕ, zero, suc, ◌+◌, ◌≤◌, List, [], ◌∷◌, set, sum_by, sym, refl, ap, arith}
use mathlib.Core.Option.{some, some-injective, some-ne-none}
use lib.ListN.{get_elem?}
use Rattle.std.proofs.lemmas.List.Sums.{sum_by-cons}
use Rattle.shared_best.specs.declared.view.View.{View}
use Rattle.shared_best.specs.DeskStates.{EachView}

-- The sum after one view was changed.
pub sum_by-set : (f : View → ℕ) (views : List View) (k : ℕ) (v w : View) → get_elem? views k ≡ some v → sum_by f (set views k w) + f v ≡ sum_by f views + f w
sum_by-set f [] k v w e = absurd (some-ne-none v (sym e))
sum_by-set f (x ∷ xs) zero v w e = let is : f x ≡ f v = ap f (some-injective x v e) in omega (arith, sum_by-cons f x xs, sum_by-cons f w xs)
sum_by-set f (x ∷ xs) (suc k) v w e = let r = sum_by-set f xs k v w e in omega (arith, sum_by-cons f x xs, sum_by-cons f x (set xs k w))

-- One of the views gives no more than all.
pub sum_by-at : (f : View → ℕ) (views : List View) (k : ℕ) (v : View) → get_elem? views k ≡ some v → f v ≤ sum_by f views
sum_by-at f [] k v e = absurd (some-ne-none v (sym e))
sum_by-at f (x ∷ xs) zero v e = let is : f x ≡ f v = ap f (some-injective x v e) in omega (arith, sum_by-cons f x xs)
sum_by-at f (x ∷ xs) (suc k) v e = let r = sum_by-at f xs k v e in omega (arith, sum_by-cons f x xs)

-- Where each view gives no more of f than of g, so do all.
pub sum_by-le_each : (f g : View → ℕ) (views : List View) → EachView (λ v. f v ≤ g v) views → sum_by f views ≤ sum_by g views
sum_by-le_each f g [] each = omega arith
sum_by-le_each f g (x ∷ xs) each =
    let r = sum_by-le_each f g xs (λ k v e. each (suc k) v e) in
    let h = each 0 x refl in
    omega (arith, sum_by-cons f x xs, sum_by-cons g x xs)

sum_by-none : (f g : View → ℕ) (views : List View) → sum_by g views ≡ 0 → EachView (λ v. g v ≡ 0 → f v ≡ 0) views → sum_by f views ≡ 0
sum_by-none f g [] all each = refl
sum_by-none f g (x ∷ xs) all each =
    let c = sum_by-cons g x xs in
    let h = each 0 x refl (omega arith) in
    let r = sum_by-none f g xs (omega arith) (λ k u e. each (suc k) u e) in
    omega (arith, sum_by-cons f x xs)

-- Where one view has all of g, and each view with none of g has none of f, that one has all of f.
pub sum_by-alone : (f g : View → ℕ) (views : List View) (k : ℕ) (v : View) → get_elem? views k ≡ some v → sum_by g views ≡ g v
    → EachView (λ v. g v ≡ 0 → f v ≡ 0) views → sum_by f views ≡ f v
sum_by-alone f g [] k v e all each = absurd (some-ne-none v (sym e))
sum_by-alone f g (x ∷ xs) zero v e all each =
    let is = some-injective x v e in
    let of_f : f x ≡ f v = ap f is in
    let of_g : g x ≡ g v = ap g is in
    let c = sum_by-cons g x xs in
    let r = sum_by-none f g xs (omega arith) (λ k u e. each (suc k) u e) in
    omega (arith, sum_by-cons f x xs)
sum_by-alone f g (x ∷ xs) (suc k) v e all each =
    let c = sum_by-cons g x xs in
    let at = sum_by-at g xs k v e in
    let none : g x ≡ 0 = omega arith in
    let none_of_f = each 0 x refl none in
    let r = sum_by-alone f g xs k v e (omega arith) (λ k u e. each (suc k) u e) in
    omega (arith, sum_by-cons f x xs)

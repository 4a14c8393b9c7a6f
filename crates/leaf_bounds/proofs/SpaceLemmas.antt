-- The rows of the table over products and space.
use Rattle.std.proofs.Common.{◌≡◌, ℕ, zero, suc, ◌+◌, ◌-◌, ◌*◌, ◌^◌, ◌<◌, ◌≤◌, Bool, true, false, List, [], ◌∷◌, drop, refl, sym, ◌∙◌, ap, subst, arith, add-one, Option, Some, None}
use Rattle.std.specs.Prelude.{slice_get, nat_le}
use Rattle.std.specs.Int.{int_max}
use lib.IntN.{ℤ}
use Rattle.std.proofs.lemmas.Int.{ints, clamps}
use Rattle.std.proofs.lemmas.Bool.Decides.{nat_tests}
use Rattle.offer_model.specs.declared.node.Mark.{Mark}
use Rattle.offer_model.specs.declared.node.Mark.TheVariants.{In, Out, Open}
use Rattle.offer_model.specs.declared.products.Limit.{Limit}
use Rattle.offer_model.specs.declared.products.Limit.TheVariants.{Total, Category, Requires, Shelf, Ladder}
use Rattle.offer_model.specs.Problems.{ProblemData, product_at}
use Rattle.offer_model.specs.Nodes.{mark_at}
use Rattle.offer_model.specs.LeafBounds.{greater_of, raised_by, leaving_out, offering, best_in_space, shelf_space}
use Rattle.std.specs.List.{AllByRecursion}
use Rattle.offer_model.specs.Validity.{IsInRange}
use Rattle.linear_step.specs.Weights.{IsWithin}
use Rattle.leaf_bounds.specs.Shelves.{IsSmall}
use Rattle.leaf_bounds.proofs.ListLemmas.{drop_at}

-- ---- The first shelf.

pub shelf_here : (limits : List Limit) (k : ℕ) (space : ℕ) → slice_get limits k ≡ Some (Shelf space) → shelf_space limits ≡ shelf_space (drop k limits) → Some space ≡ shelf_space limits
shelf_here limits k space got inv = sym (inv ∙ ap shelf_space (drop_at limits k (Shelf space) got))

shelf_later : (x : Limit) (rest : List Limit) → ((space : ℕ) → x ≡ Shelf space → ⊥) → shelf_space (x ∷ rest) ≡ shelf_space rest
shelf_later (Shelf space) rest d = absurd (d space refl)
shelf_later (Total cap) rest d = refl
shelf_later (Category c cap) rest d = refl
shelf_later (Requires a b) rest d = refl
shelf_later (Ladder k) rest d = refl

pub shelf_past : (limits : List Limit) (k : ℕ) (x : Limit) → slice_get limits k ≡ Some x → ((space : ℕ) → x ≡ Shelf space → ⊥) → shelf_space limits ≡ shelf_space (drop k limits)
    → shelf_space limits ≡ shelf_space (drop (k + 1) limits)
shelf_past limits k x got d inv = inv ∙ ap shelf_space (drop_at limits k x got) ∙ shelf_later x (drop (k + 1) limits) d

pub shelf_range : (limits : List Limit) (space : ℕ) → AllByRecursion IsInRange limits → shelf_space limits ≡ Some space → space ≤ 1000
shelf_range [] space r e = cc
shelf_range (Shelf k ∷ limits) space r e = let same : k ≡ space = cc in omega (arith, r.0)
shelf_range (Total cap ∷ limits) space r e = shelf_range limits space r.1 e
shelf_range (Category c cap ∷ limits) space r e = shelf_range limits space r.1 e
shelf_range (Requires a b ∷ limits) space r e = shelf_range limits space r.1 e
shelf_range (Ladder k ∷ limits) space r e = shelf_range limits space r.1 e

-- ---- How large the sums are.

small_max : (m : ℕ) (a b : ℤ) → IsWithin m a → IsWithin m b → IsWithin m (int_max a b)
small_max m a b w x = let a0 = w.0 in let a1 = w.1 in let b0 = x.0 in let b1 = x.1 in (omega (arith, ints, clamps), omega (arith, ints, clamps))

small_greater : (m : ℕ) (a b : Option ℤ) → IsSmall m a → IsSmall m b → IsSmall m (greater_of a b)
small_greater m None b s t = t
small_greater m (Some a) None s t = s
small_greater m (Some a) (Some b) s t = small_max m a b s t

small_left : (m n : ℕ) (mark : Mark) (o : Option ℤ) → m ≤ n → IsSmall m o → IsSmall n (leaving_out mark o)
small_left m n In o l s = tt
small_left m n Out o l s = wider o s
  where
    wider : (o : Option ℤ) → IsSmall m o → IsSmall n o
    wider None s = tt
    wider (Some z) s = let a = s.0 in let b = s.1 in (omega (arith, ints), omega (arith, ints))
small_left m n Open None l s = tt
small_left m n Open (Some z) l s = let a = s.0 in let b = s.1 in (omega (arith, ints), omega (arith, ints))

small_offered : (m : ℕ) (mark : Mark) (fits : Bool) (price : ℤ) (o : Option ℤ) → IsWithin (2 ^ 98) price → IsSmall m o → IsSmall (m + 2 ^ 98) (offering mark fits (raised_by price o))
small_offered m Out fits price o w s = tt
small_offered m mark false price o w s = none mark
  where
    none : (mark : Mark) → IsSmall (m + 2 ^ 98) (offering mark false (raised_by price o))
    none In = tt
    none Out = tt
    none Open = tt
small_offered m In true price None w s = tt
small_offered m Open true price None w s = tt
small_offered m In true price (Some z) w s = let a = s.0 in let b = s.1 in let c = w.0 in let d = w.1 in (omega (arith, ints), omega (arith, ints))
small_offered m Open true price (Some z) w s = let a = s.0 in let b = s.1 in let c = w.0 in let d = w.1 in (omega (arith, ints), omega (arith, ints))

best_within : (p : ProblemData) (marks : List Mark) (price : ℕ → ℤ) (k room : ℕ) → ((i : ℕ) → i < k → IsWithin (2 ^ 98) (price i)) → IsSmall (k * 2 ^ 98 + 1) (best_in_space p marks price k room)
best_within p marks price zero room w = (omega (arith, ints), omega (arith, ints))
best_within p marks price (suc k) room w =
    let one = best_within p marks price k room (λ i l. w i (omega arith)) in
    let two = best_within p marks price k (room - (product_at p k).space) (λ i l. w i (omega arith)) in
    let e : (k * 2 ^ 98 + 1) + 2 ^ 98 ≡ (suc k) * 2 ^ 98 + 1 = omega arith in
    small_greater ((suc k) * 2 ^ 98 + 1) _ _ (small_left (k * 2 ^ 98 + 1) ((suc k) * 2 ^ 98 + 1) (mark_at marks k) (best_in_space p marks price k room) (omega arith) one)
    (subst (λ n. IsSmall n (offering (mark_at marks k) (nat_le (product_at p k).space room) (raised_by (price k) (best_in_space p marks price k (room - (product_at p k).space))))) e
    (small_offered (k * 2 ^ 98 + 1) (mark_at marks k) (nat_le (product_at p k).space room) (price k) (best_in_space p marks price k (room - (product_at p k).space)) (w k (omega arith)) two))

smaller : (m n : ℕ) (o : Option ℤ) → m ≤ n → IsSmall m o → IsSmall n o
smaller m n None l s = tt
smaller m n (Some z) l s = let a = s.0 in let b = s.1 in (omega (arith, ints), omega (arith, ints))

pub best_small : (p : ProblemData) (marks : List Mark) (price : ℕ → ℤ) (k room : ℕ) (o : Option ℤ) → k ≤ 256 → ((i : ℕ) → i < k → IsWithin (2 ^ 98) (price i))
    → o ≡ best_in_space p marks price k room → IsSmall (2 ^ 107) o
best_small p marks price k room o few w e =
    rw e (smaller (k * 2 ^ 98 + 1) (2 ^ 107) (best_in_space p marks price k room) (omega arith) (best_within p marks price k room w))

-- ---- One more product.

none_offered : (mark : Mark) (sum : Option ℤ) → offering mark true None ≡ offering mark false sum
none_offered In sum = refl
none_offered Out sum = refl
none_offered Open sum = refl

-- The product takes no more than the room.
pub best_fits : (p : ProblemData) (marks : List Mark) (price : ℕ → ℤ) (k room space : ℕ) (m : Mark) (z : ℤ) (without before : Option ℤ) → m ≡ mark_at marks k → z ≡ price k → space ≡ (product_at p k).space
    → space ≤ room → without ≡ best_in_space p marks price k room → before ≡ best_in_space p marks price k (room - space)
    → greater_of (leaving_out m without) (offering m true (raised_by z before)) ≡ best_in_space p marks price (k + 1) room
best_fits p marks price k room space m z without before em ez es l ew eb =
    let test : nat_le (product_at p k).space room ≡ true = grind (arith, nat_tests) in
    rw (add-one, test, em, ez, ew, eb, es) refl

-- It takes more.
pub best_over : (p : ProblemData) (marks : List Mark) (price : ℕ → ℤ) (k room space : ℕ) (m : Mark) (without : Option ℤ) → m ≡ mark_at marks k → space ≡ (product_at p k).space
    → room < space → without ≡ best_in_space p marks price k room
    → greater_of (leaving_out m without) (offering m true None) ≡ best_in_space p marks price (k + 1) room
best_over p marks price k room space m without em es l ew =
    let test : nat_le (product_at p k).space room ≡ false = grind (arith, nat_tests) in
    rw (add-one, test, em, ew) (ap (greater_of (leaving_out (mark_at marks k) (best_in_space p marks price k room)))
    (none_offered (mark_at marks k) (raised_by (price k) (best_in_space p marks price k (room - (product_at p k).space)))))

-- Ladders that have a limit, and potentials product by product.
use Rattle.std.proofs.Common.{◌≡◌, ℕ, zero, suc, ◌+◌, ◌*◌, ◌^◌, ◌<◌, ◌≤◌, Bool, true, false, cond, List, ◌∷◌, length, drop, refl, sym, ◌∙◌, ap, arith, add-one, Some, eqb}
use Rattle.std.specs.Prelude.{pos, negsuc, ◌+ℤ◌, slice_get}
use lib.IntN.{ℤ}
use Rattle.std.proofs.lemmas.Int.{ints}
use Rattle.std.proofs.lemmas.Bool.{eq-eqb}
use Rattle.std.proofs.lemmas.Bool.Decides.{nat_tests}
use Rattle.offer_model.specs.declared.node.Mark.{Mark}
use Rattle.offer_model.specs.declared.node.Mark.TheVariants.{In, Out, Open}
use Rattle.offer_model.specs.declared.products.Limit.{Limit}
use Rattle.offer_model.specs.declared.products.Limit.TheVariants.{Total, Category, Requires, Shelf, Ladder}
use Rattle.offer_model.specs.Problems.{ProblemData, product_count}
use Rattle.offer_model.specs.Nodes.{settled_mark}
use Rattle.offer_model.specs.Prices.{Prices, int_sum_below, positive_part}
use Rattle.offer_model.specs.LeafBounds.{is_limited, ladder_of, IsUsable, PotentialsFit, most_beside}
use Rattle.linear_step.specs.Weights.{IsWithin, WeightsData, AreWeights, weight_at, prices_of}
use Rattle.leaf_bounds.specs.Potentials.{AreUsable, FitsBeside, IsPotential, worth_beside}
use Rattle.leaf_bounds.proofs.ListLemmas.{drop_at}

-- ---- Which ladders have a limit.

limited_first : (x : Limit) (rest : List Limit) (l : ℕ) → x ≡ Ladder l → is_limited (x ∷ rest) l ≡ true
limited_first x rest l e = let same = eq-eqb l l refl in rw (e, same) refl

limited_later : (x : Limit) (rest : List Limit) (l : ℕ) → (x ≡ Ladder l → ⊥) → is_limited (x ∷ rest) l ≡ is_limited rest l
limited_later (Ladder k) rest l d = elim (eqb k l) as (λ v. eqb k l ≡ v → cond v true (is_limited rest l) ≡ is_limited rest l) [
  | true ↦ λ t. let same : k ≡ l = grind (arith, nat_tests) in absurd (d (ap Ladder same))
  | false ↦ λ f. refl
] refl
limited_later (Total cap) rest l d = refl
limited_later (Category c cap) rest l d = refl
limited_later (Shelf space) rest l d = refl
limited_later (Requires a b) rest l d = refl

pub limited_here : (limits : List Limit) (k : ℕ) (x : Limit) (l : ℕ) → slice_get limits k ≡ Some x → x ≡ Ladder l → is_limited limits l ≡ is_limited (drop k limits) l → true ≡ is_limited limits l
limited_here limits k x l got e inv =
    sym (inv ∙ ap (λ z. is_limited z l) (drop_at limits k x got) ∙ limited_first x (drop (k + 1) limits) l e)

pub limited_past : (limits : List Limit) (k : ℕ) (x : Limit) (l : ℕ) → slice_get limits k ≡ Some x → (x ≡ Ladder l → ⊥) → is_limited limits l ≡ is_limited (drop k limits) l
    → is_limited limits l ≡ is_limited (drop (k + 1) limits) l
limited_past limits k x l got d inv = inv ∙ ap (λ z. is_limited z l) (drop_at limits k x got) ∙ limited_later x (drop (k + 1) limits) l d

-- ---- Usable products.

pub usable_from : (p : ProblemData) (node : List Mark) (i : ℕ) → settled_mark p node i ≡ Open → is_limited p.limits (ladder_of p i) ≡ true → FitsBeside p node i → IsUsable p node i
usable_from p node i o l f = record { open_mark = o; limited = l; fits = λ j inside e same. f j inside (e, same) }

pub fits_of_usable : (p : ProblemData) (node : List Mark) (i : ℕ) → IsUsable p node i → FitsBeside p node i
fits_of_usable p node i u = λ j inside both. u.fits j inside both.0 both.1

-- ---- Potentials fit exactly where each number may be its product's.

pub potentials_fit : (p : ProblemData) (node : List Mark) (price : ℕ → ℤ) (usable : List Bool) (us : List ℕ) → AreUsable p node usable → length us ≡ product_count p
    → ((i : ℕ) → i < product_count p → IsPotential p price usable us i) → PotentialsFit p node price us
potentials_fit p node price usable us u each h = record {
  each = each;
  unused = λ i l d. (h i l).unused (λ t. d ((u.is i l).0 t));
  alone = λ i l k. (h i l).alone ((u.is i l).1 k);
  chained = λ i j li lj k m same rises. (h i li).chained ((u.is i li).1 k) j lj ((u.is j lj).1 m, same, rises);
}

pub fit_potentials : (p : ProblemData) (node : List Mark) (price : ℕ → ℤ) (usable : List Bool) (us : List ℕ) → AreUsable p node usable
    → PotentialsFit p node price us → (i : ℕ) → i < product_count p → IsPotential p price usable us i
fit_potentials p node price usable us u f i l = record {
  unused = λ d. f.unused i l (λ k. d ((u.is i l).1 k));
  alone = λ t. f.alone i l ((u.is i l).0 t);
  chained = λ t j lj rise. f.chained i j l lj ((u.is i l).0 t) ((u.is j lj).0 rise.0) rise.1 rise.2;
}

-- ---- What products add beside the tops of the ladders.

beside_within : (m : Mark) (b : Bool) (z : ℤ) → IsWithin (2 ^ 98) z → IsWithin (2 ^ 98) (most_beside m b z)
beside_within In b z w = w
beside_within Out b z w = (omega (arith, ints), omega (arith, ints))
beside_within Open true z w = (omega (arith, ints), omega (arith, ints))
beside_within Open false z w = part z w
  where
    part : (z : ℤ) → IsWithin (2 ^ 98) z → IsWithin (2 ^ 98) (positive_part z)
    part (pos n) w = w
    part (negsuc n) w = (omega (arith, ints), omega (arith, ints))

pub within_sum : (n : ℕ) (f : ℕ → ℤ) → ((i : ℕ) → i < n → IsWithin (2 ^ 98) (f i)) → IsWithin (n * 2 ^ 98 + 1) (int_sum_below n f)
within_sum zero f w = (omega (arith, ints), omega (arith, ints))
within_sum (suc n) f w =
    let before = within_sum n f (λ i l. w i (omega arith)) in
    let here = w n (omega arith) in
    let a = before.0 in let b = before.1 in let c = here.0 in let d = here.1 in
    (omega (arith, ints), omega (arith, ints))

pub beside_small : (p : ProblemData) (node : List Mark) (w : WeightsData) (n : ℕ) → AreWeights p w → product_count p ≤ 256 → n ≤ product_count p → IsWithin (2 ^ 119) (worth_beside p node (prices_of w) n)
beside_small p node w n s few l =
    let sum = within_sum n (λ i. most_beside (settled_mark p node i) (is_limited p.limits (ladder_of p i)) (weight_at w i))
    (λ i h. beside_within (settled_mark p node i) (is_limited p.limits (ladder_of p i)) (weight_at w i) (s.small i (omega arith))) in
    let a = sum.0 in let b = sum.1 in let c = s.constant.0 in let d = s.constant.1 in
    (omega (arith, ints), omega (arith, ints))

pub beside_at : (m k : Mark) (b d : Bool) (x y z : ℤ) → m ≡ k → b ≡ d → x ≡ y → y ≡ z → most_beside m b x ≡ most_beside k d z
beside_at m k b d x y z e f g h = cc

pub beside_more : (p : ProblemData) (node : List Mark) (at : Prices) (n : ℕ) (sum z : ℤ) → sum ≡ worth_beside p node at n
    → z ≡ most_beside (settled_mark p node n) (is_limited p.limits (ladder_of p n)) (at.price n) → sum +ℤ z ≡ worth_beside p node at (n + 1)
beside_more p node at n sum z e here = rw add-one (omega (arith, ints, e, here))

pub wide_enough : (z : ℤ) → IsWithin (2 ^ 119) z → IsWithin (2 ^ 126) z
wide_enough z w = let low = w.0 in let high = w.1 in (omega (arith, ints), omega (arith, ints))

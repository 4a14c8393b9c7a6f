-- Amounts and a closed set prove each other greatest.
use Rattle.std.proofs.Common.{◌≡◌, ℕ, Bool, true, false, cond, List, length, refl, arith, suc, zero, ◌<◌}
use Rattle.std.specs.Prelude.{pos, negsuc, ◌-ℤ◌, ◌≤ℤ◌, slice_index}
use Rattle.std.proofs.lemmas.Int.{ints}
use lib.IntN.{ℤ}
use Rattle.offer_model.proofs.SumLemmas.{sum_mono, int_sum_below-same, int_sum_below-zeros}
use Rattle.offer_model.proofs.CompletionLemmas.{worth_at}
use Rattle.offer_model.specs.declared.node.Mark.{Mark}
use Rattle.offer_model.specs.declared.node.Mark.TheVariants.{In, Out, Open}
use Rattle.offer_model.specs.Prices.{most_of}
use Rattle.offer_model.specs.Nodes.{mark_at, Agrees}
use Rattle.cut_step.specs.declared.rows.Row.{Row}
use Rattle.cut_step.specs.Closures.{first_of, second_of, IsClosure, price_at, sum_over}
use Rattle.cut_step.specs.Flows.{IsBalanced, IsSettled, IsCertified, bound}
use Rattle.cut_step.proofs.TotalLemmas.{sum_none}

exact : (m : Mark) (b : Bool) (z : ℤ) → IsSettled m b z → cond b z (pos 0) ≡ most_of m z
exact In true z a = refl
exact In false z a = cc
exact Out true z a = cc
exact Out false z a = refl
exact Open true (pos n) a = refl
exact Open true (negsuc n) a = absurd (omega (arith, ints))
exact Open false (pos n) a = omega (arith, ints)
exact Open false (negsuc n) a = refl

settled_agrees : (m : Mark) (b : Bool) (z : ℤ) → IsSettled m b z → Agrees m b
settled_agrees In b z a = a
settled_agrees Out b z a = a
settled_agrees Open b z a = tt

brought : (a b : Bool) (n : ℕ) → (a ≡ true → b ≡ true) → pos 0 ≤ℤ (cond b (pos n) (pos 0) -ℤ cond a (pos n) (pos 0))
brought true true n h = omega (arith, ints)
brought false true n h = omega (arith, ints)
brought false false n h = omega (arith, ints)
brought true false n h = let e = h refl in cc

even : (a b : Bool) (n : ℕ) → (a ≡ true → b ≡ true) → (0 < n → b ≡ true → a ≡ true) → (cond b (pos n) (pos 0) -ℤ cond a (pos n) (pos 0)) ≡ pos 0
even true true n h g = omega (arith, ints)
even false false n h g = omega (arith, ints)
even true false n h g = let e = h refl in cc
even false true zero h g = omega (arith, ints)
even false true (suc n) h g = let e = g (omega arith) refl in cc

-- A certified set is a closed set that agrees with the node.
pub certified_fits : (rows : List Row) (node : List Mark) (w r : List ℤ) (f : List ℕ) (s : ℕ → Bool) → length node ≡ length w → IsCertified rows node w r f s → IsClosure rows node s
certified_fits rows node w r f s e c = record {
  keeps = c.keeps;
  agrees = λ i l. settled_agrees (mark_at node i) (s i) (price_at r i) (c.settled i (omega arith));
}

-- Its total is the bound at what is left: the amounts bring nothing into it and take nothing out.
pub certified_bound : (rows : List Row) (node : List Mark) (w r : List ℤ) (f : List ℕ) (s : ℕ → Bool) → length node ≡ length w → IsCertified rows node w r f s
    → sum_over (length w) s (price_at w) ≡ bound node (length w) (price_at r)
certified_bound rows node w r f s e c =
    let balance = c.balanced.is s in
    let none = int_sum_below-zeros (length rows) (λ k. cond (s (second_of rows k)) (pos (slice_index f k)) (pos 0) -ℤ cond (s (first_of rows k)) (pos (slice_index f k)) (pos 0))
    (λ k l. even (s (first_of rows k)) (s (second_of rows k)) (slice_index f k) (c.keeps k l) (c.tight k l)) in
    let same = int_sum_below-same (length w) (λ i. cond (s i) (price_at r i) (pos 0)) (λ i. most_of (mark_at node i) (price_at r i)) (λ i l. exact (mark_at node i) (s i) (price_at r i) (c.settled i l)) in
    omega (arith, ints, balance, none, same)

-- No closed set that agrees with the node has a total above the bound at what is left: rows bring it nothing less than 0.
pub fits_bounded : (rows : List Row) (node : List Mark) (w r : List ℤ) (f : List ℕ) (y : ℕ → Bool) → length node ≡ length w → IsBalanced rows w r f → IsClosure rows node y
    → sum_over (length w) y (price_at w) ≤ℤ bound node (length w) (price_at r)
fits_bounded rows node w r f y e b h =
    let balance = b.is y in
    let some = sum_none (length rows) (λ k. cond (y (second_of rows k)) (pos (slice_index f k)) (pos 0) -ℤ cond (y (first_of rows k)) (pos (slice_index f k)) (pos 0))
    (λ k l. brought (y (first_of rows k)) (y (second_of rows k)) (slice_index f k) (h.keeps k l)) in
    let below = sum_mono (length w) (λ i. cond (y i) (price_at r i) (pos 0)) (λ i. most_of (mark_at node i) (price_at r i)) (λ i l. worth_at (mark_at node i) (y i) (price_at r i) (h.agrees i (omega arith))) in
    omega (arith, ints, balance, some, below)

-- So no closed set has a greater total than a certified one.
pub certified_greatest : (rows : List Row) (node : List Mark) (w r : List ℤ) (f : List ℕ) (s y : ℕ → Bool) → length node ≡ length w → IsCertified rows node w r f s → IsClosure rows node y
    → sum_over (length w) y (price_at w) ≤ℤ sum_over (length w) s (price_at w)
certified_greatest rows node w r f s y e c h =
    let at = certified_bound rows node w r f s e c in
    let most = fits_bounded rows node w r f y e c.balanced h in
    omega (arith, ints, at, most)

-- What both phases come to, as a closed set of greatest total and as a bound.
use Rattle.std.proofs.Common.{◌≡◌, ℕ, Bool, true, false, cond, List, length, refl, arith, suc, zero, ◌<◌, ◌+◌, eqb, ap, sym, subst, ◌∙◌}
use Rattle.std.specs.Prelude.{pos, ◌+ℤ◌, ◌-ℤ◌, slice_index}
use Rattle.std.proofs.lemmas.Int.{ints}
use lib.IntN.{ℤ}
use Rattle.offer_model.specs.declared.node.Mark.{Mark}
use Rattle.offer_model.specs.Assortments.{sum_below}
use Rattle.offer_model.specs.Prices.{int_sum_below}
use Rattle.offer_model.specs.Nodes.{mark_at, Agrees}
use Rattle.offer_model.proofs.SumLemmas.{int_sum_below-same}
use Rattle.cut_step.specs.declared.rows.Row.{Row}
use Rattle.cut_step.specs.declared.reach.Spot.{Spot}
use Rattle.cut_step.specs.Closures.{first_of, second_of, price_at, IsGreatestClosure}
use Rattle.cut_step.specs.Flows.{IsBalanced}
use Rattle.cut_step.specs.Searches.{seen}
use Rattle.cut_step.specs.Phases.{IsSolved}
use Rattle.cut_step.proofs.CertificateLemmas.{certified_fits, certified_greatest}
use Rattle.cut_step.proofs.TotalLemmas.{sum_pick}

-- What the amounts bring to a set and take from it, as two sums.
parts : (m : ℕ) (p q : ℕ → Bool) (f : ℕ → ℕ) → int_sum_below m (λ k. cond (q k) (pos (f k)) (pos 0) -ℤ cond (p k) (pos (f k)) (pos 0))
    ≡ pos (sum_below m (λ k. cond (q k) (f k) 0)) -ℤ pos (sum_below m (λ k. cond (p k) (f k) 0))
parts zero p q f = refl
parts (suc m) p q f =
    let before = parts m p q f in
    elim (p m) as (λ v. int_sum_below m (λ k. cond (q k) (pos (f k)) (pos 0) -ℤ cond (p k) (pos (f k)) (pos 0)) +ℤ (cond (q m) (pos (f m)) (pos 0) -ℤ cond v (pos (f m)) (pos 0))
    ≡ pos (sum_below m (λ k. cond (q k) (f k) 0) + cond (q m) (f m) 0) -ℤ pos (sum_below m (λ k. cond (p k) (f k) 0) + cond v (f m) 0)) [
      | true ↦ elim (q m) as (λ u. int_sum_below m (λ k. cond (q k) (pos (f k)) (pos 0) -ℤ cond (p k) (pos (f k)) (pos 0)) +ℤ (cond u (pos (f m)) (pos 0) -ℤ pos (f m))
          ≡ pos (sum_below m (λ k. cond (q k) (f k) 0) + cond u (f m) 0) -ℤ pos (sum_below m (λ k. cond (p k) (f k) 0) + f m))
          [ true ↦ omega (arith, ints, before) | false ↦ omega (arith, ints, before) ]
      | false ↦ elim (q m) as (λ u. int_sum_below m (λ k. cond (q k) (pos (f k)) (pos 0) -ℤ cond (p k) (pos (f k)) (pos 0)) +ℤ (cond u (pos (f m)) (pos 0) -ℤ pos 0)
          ≡ pos (sum_below m (λ k. cond (q k) (f k) 0) + cond u (f m) 0) -ℤ pos (sum_below m (λ k. cond (p k) (f k) 0) + 0))
          [ true ↦ omega (arith, ints, before) | false ↦ omega (arith, ints, before) ]
    ]

-- What is left of a product's price is its price, with what the amounts bring and without what they take.
pub left_priced : (rows : List Row) (w r : List ℤ) (f : List ℕ) (i : ℕ) → IsBalanced rows w r f → i < length w
    → price_at r i ≡ (price_at w i +ℤ pos (sum_below (length rows) (λ k. cond (eqb i (second_of rows k)) (slice_index f k) 0)))
    -ℤ pos (sum_below (length rows) (λ k. cond (eqb i (first_of rows k)) (slice_index f k) 0))
left_priced rows w r f i b l =
    let is = b.is (eqb i) in
    let a = sum_pick (length w) i (price_at r) l in
    let c = sum_pick (length w) i (price_at w) l in
    let m = parts (length rows) (λ k. eqb i (first_of rows k)) (λ k. eqb i (second_of rows k)) (slice_index f) in
    omega (arith, ints, is, a, c, m)

-- What was reached in the end is a closed set of greatest total.
pub solved_greatest : (rows : List Row) (node : List Mark) (w r : List ℤ) (f : List ℕ) (spots : List Spot) → length node ≡ length w → IsSolved rows node w r f spots → IsGreatestClosure rows node w (seen spots)
solved_greatest rows node w r f spots e s = record {
  closed = certified_fits rows node w r f (seen spots) e s.certified;
  most = λ y h. certified_greatest rows node w r f (seen spots) y e s.certified h;
}

-- Sets that hold the same products are equally great.
pub greatest_same : (rows : List Row) (node : List Mark) (w : List ℤ) (s t : ℕ → Bool) → ((i : ℕ) → t i ≡ s i) → IsGreatestClosure rows node w s → IsGreatestClosure rows node w t
greatest_same rows node w s t e g = record {
  closed = record {
    keeps = λ k l h. e (second_of rows k) ∙ g.closed.keeps k l (sym (e (first_of rows k)) ∙ h);
    agrees = λ i l. subst (λ (b : Bool). Agrees (mark_at node i) b) (sym (e i)) (g.closed.agrees i l);
  };
  most = λ y h.
      let same = int_sum_below-same (length w) (λ i. cond (t i) (price_at w i) (pos 0)) (λ i. cond (s i) (price_at w i) (pos 0)) (λ i l. ap (λ (b : Bool). cond b (price_at w i) (pos 0)) (e i)) in
      let m = g.most y h in
      omega (arith, ints, same, m);
}

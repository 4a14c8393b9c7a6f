-- A greatest chain of one ladder, from the lowest grade up.
use Rattle.std.proofs.Common.{◌≡◌, ◌≢◌, ℕ, zero, suc, ◌+◌, ◌<◌, ◌≤◌, Bool, true, false, cond, List, length, Option, Some, None, refl, sym, ap, arith, subst, ◌∙◌, inl, inr, eqb}
use Rattle.std.specs.Prelude.{pos, ◌+ℤ◌, ◌-ℤ◌, ◌⊎◌, slice_index, slice_set}
use Rattle.std.proofs.lemmas.Int.{ints}
use Rattle.std.proofs.lemmas.Bool.{cases_eq, eqb-true, false_from_ne_true}
use Rattle.std.proofs.lemmas.List.{get_or-set_other, length-set}
use lib.IntN.{ℤ}
use Rattle.offer_model.specs.declared.products.Product.{Product}
use Rattle.offer_model.specs.Assortments.{offers}
use Rattle.offer_model.specs.Problems.{ProblemData, product_count, product_at}
use Rattle.offer_model.specs.Prices.{Prices, worth_of}
use Rattle.offer_model.specs.LeafBounds.{Rises, ladder_of, ladder_top}
use Rattle.offer_model.proofs.PotentialLemmas.{top_le}
use Rattle.linear_step.specs.Closings.{number_bound}
use Rattle.table_steps.specs.LadderRungs.{RungsData, AreRungs}
use Rattle.table_steps.specs.LadderPotentials.{Follows, IsGreatestAfter, RisesTo, IsAbove, AreSums}
use Rattle.table_steps.specs.LadderChoices.{IsChain, HasClimbed}
use Rattle.table_steps.proofs.SumLemmas.{worth_set}
use Rattle.table_steps.proofs.LadderPotentialLemmas.{rises_where}

-- a is the last of a chain, or rises to it.
abbrev pub EndsAt : Option Product → Product → Type 0
EndsAt None a = ⊥
EndsAt (Some b) a = (a ≡ b) ⊎ Rises a b

-- Nothing is missing, or a product from place k on has what is missing as its number.
abbrev pub IsAhead : ProblemData → List ℕ → RungsData → ℕ → ℕ → Option Product → Type 0
IsAhead p us r k want last = (want ≡ 0) ⊎ ((q : ℕ) × (k ≤ q) × (q < length r.products) × Follows last (product_at p (slice_index r.products q))
    × (slice_index us (slice_index r.products q) ≡ want))

-- What holds while a chain of the ladder is offered, after the places below k: from x to y, `last` is its last product, and
-- `want` is what is missing of the ladder's greatest number.
pub record IsClimbing (p : ProblemData) (at : Prices) (us : List ℕ) (r : RungsData) (k want : ℕ) (last : Option Product) (x y : List Bool) : Type 0 where
  pub each : length y ≡ product_count p
  pub others : (i : ℕ) → (ladder_of p i ≡ r.ladder → ⊥) → offers y i ≡ offers x i
  pub unused : (i : ℕ) → slice_index us i ≡ 0 → offers y i ≡ offers x i
  pub chain : IsChain p us r.ladder y
  pub ends : (i : ℕ) → i < product_count p → ladder_of p i ≡ r.ladder → 0 < slice_index us i → offers y i ≡ true → EndsAt last (product_at p i)
  pub ahead : IsAhead p us r k want last
  pub worth : worth_of p at y +ℤ pos want ≡ worth_of p at x +ℤ pos (ladder_top p us r.ladder (product_count p))

-- ---- The start.

part_le : (b : Bool) (u m : ℕ) → (b ≡ true → u ≤ m) → cond b u 0 ≤ m
part_le true u m h = h refl
part_le false u m h = omega arith

top_most : (p : ProblemData) (us : List ℕ) (l m n : ℕ) → ((i : ℕ) → i < n → ladder_of p i ≡ l → slice_index us i ≤ m) → ladder_top p us l n ≤ m
top_most p us l m zero h = omega arith
top_most p us l m (suc n) h =
    let before = top_most p us l m n (λ i li. h i (omega arith)) in
    let here = part_le (eqb (ladder_of p n) l) (slice_index us n) m (λ e. h n (omega arith) (eqb-true (ladder_of p n) l e)) in
    omega arith

-- The greatest number of the listed products is the ladder's.
top_is : (p : ProblemData) (us : List ℕ) (r : RungsData) (m : ℕ) → AreRungs p r → IsGreatestAfter p us r.products None 0 (length r.products) m
    → m ≡ ladder_top p us r.ladder (product_count p)
top_is p us r m are h =
    let most = top_most p us r.ladder m (product_count p) (λ i li e. let q = are.all i li e in subst (λ t. slice_index us t ≤ m) q.2 (h.most q.0 (omega arith) q.1 tt)) in
    let least = by_case h.reached in
    omega arith
  where
    by_case : ((m ≡ 0) ⊎ ((q : ℕ) × (0 ≤ q) × (q < length r.products) × Follows None (product_at p (slice_index r.products q)) × (slice_index us (slice_index r.products q) ≡ m)))
        → m ≤ ladder_top p us r.ladder (product_count p)
    by_case (inl e) = omega arith
    by_case (inr q) =
        let le = top_le p us r.ladder (product_count p) (slice_index r.products q.0) (are.inside q.0 q.2) (are.on q.0 q.2) in
        let e = q.4 in
        omega arith

differ : (b : Bool) → b ≡ false → b ≡ true → ⊥
differ true e h = cc
differ false e h = cc

-- A climb begins below the first rung, with nothing offered of what has a potential.
pub climb_start : (p : ProblemData) (at : Prices) (us : List ℕ) (r : RungsData) (m : ℕ) (x : List Bool) → AreRungs p r → length x ≡ product_count p
    → IsGreatestAfter p us r.products None 0 (length r.products) m
    → ((i : ℕ) → i < product_count p → ladder_of p i ≡ r.ladder → 0 < slice_index us i → offers x i ≡ false)
    → IsClimbing p at us r 0 m None x x
climb_start p at us r m x are long h free = record {
  each = long;
  others = λ i off. refl;
  unused = λ i e. refl;
  chain = λ i j li lj ne oi oj ui uj ti tj. absurd (differ (offers x i) (free i li oi ui) ti);
  ends = λ i li oi ui ti. absurd (differ (offers x i) (free i li oi ui) ti);
  ahead = h.reached;
  worth = let e = top_is p us r m are h in rw e refl;
}

-- ---- A step.

join : (last : Option Product) (a b : Product) → EndsAt last a → Follows last b → Rises a b
join None a b e f = absurd e
join (Some c) a b (inl e) f = subst (λ t. Rises t b) (sym e) f
join (Some c) a b (inr r) f =
    let g = r.0 in
    let g' = f.0 in
    let q = r.1 in
    let q' = f.1 in
    (omega arith, omega arith)

-- The product at place k goes on with the chain: m is then what is missing.
climb_taken : (p : ProblemData) (at : Prices) (us : List ℕ) (r : RungsData) (k want i m : ℕ) (last : Option Product) (x y : List Bool)
    → AreRungs p r → k < length r.products → slice_index r.products k ≡ i → 0 < want → slice_index us i ≡ want
    → Follows last (product_at p i) → IsAbove p us i m
    → pos want ≡ at.price i +ℤ pos m → IsClimbing p at us r k want last x y
    → IsClimbing p at us r (k + 1) m (Some (product_at p i)) x (slice_set y i true)
climb_taken p at us r k want i m last x y are l here some is follows above sum c = record {
  each = length-set y i true ∙ c.each;
  others = λ j off. get_or-set_other y i j true false (λ e. off (ap (ladder_of p) e ∙ on)) ∙ c.others j off;
  unused = λ j e. get_or-set_other y i j true false (λ e'. let u = rw e' at e in absurd (omega arith)) ∙ c.unused j e;
  chain = λ a b la lb ne oa ob ua ub ta tb. chain a b la lb ne oa ob ua ub ta tb (cases_eq a i) (cases_eq b i);
  ends = λ j lj oj uj tj. ends j lj oj uj tj (cases_eq j i);
  ahead = by_case above.reached;
  worth = let w = c.worth in let s = worth_set p at y i c.each inside off in omega (arith, ints);
}
  where
    inside : i < product_count p
    inside = subst (λ t. t < product_count p) here (are.inside k l)

    on : ladder_of p i ≡ r.ladder
    on = subst (λ t. ladder_of p t ≡ r.ladder) here (are.on k l)

    before : (j : ℕ) → j < product_count p → ladder_of p j ≡ r.ladder → 0 < slice_index us j → offers y j ≡ true → Rises (product_at p j) (product_at p i)
    before j lj oj uj tj = join last (product_at p j) (product_at p i) (c.ends j lj oj uj tj) follows

    off : offers y i ≡ false
    off = false_from_ne_true (offers y i) (λ t. let r' = before i inside on (omega arith) t in let g = r'.0 in absurd (omega arith))

    kept : (j : ℕ) → j ≢ i → offers (slice_set y i true) j ≡ true → offers y j ≡ true
    kept j ne t = sym (get_or-set_other y i j true false ne) ∙ t

    chain : (a b : ℕ) → a < product_count p → b < product_count p → a ≢ b → ladder_of p a ≡ r.ladder → ladder_of p b ≡ r.ladder
        → 0 < slice_index us a → 0 < slice_index us b → offers (slice_set y i true) a ≡ true → offers (slice_set y i true) b ≡ true
        → ((a ≡ i) ⊎ (a ≢ i)) → ((b ≡ i) ⊎ (b ≢ i)) → Rises (product_at p a) (product_at p b) ⊎ Rises (product_at p b) (product_at p a)
    chain a b la lb ne oa ob ua ub ta tb (inl e) (inl e') = absurd (ne (e ∙ sym e'))
    chain a b la lb ne oa ob ua ub ta tb (inl e) (inr n') = inr (rw e (before b lb ob ub (kept b n' tb)))
    chain a b la lb ne oa ob ua ub ta tb (inr n) (inl e') = inl (rw e' (before a la oa ua (kept a n ta)))
    chain a b la lb ne oa ob ua ub ta tb (inr n) (inr n') = c.chain a b la lb ne oa ob ua ub (kept a n ta) (kept b n' tb)

    ends : (j : ℕ) → j < product_count p → ladder_of p j ≡ r.ladder → 0 < slice_index us j → offers (slice_set y i true) j ≡ true
        → ((j ≡ i) ⊎ (j ≢ i)) → (product_at p j ≡ product_at p i) ⊎ Rises (product_at p j) (product_at p i)
    ends j lj oj uj tj (inl e) = inl (ap (product_at p) e)
    ends j lj oj uj tj (inr n) = inr (before j lj oj uj (kept j n tj))

    by_case : ((m ≡ 0) ⊎ ((j : ℕ) × (j < product_count p) × RisesTo p i j × (slice_index us j ≡ m)))
        → (m ≡ 0) ⊎ ((q : ℕ) × (k + 1 ≤ q) × (q < length r.products) × Rises (product_at p i) (product_at p (slice_index r.products q))
        × (slice_index us (slice_index r.products q) ≡ m))
    by_case (inl e) = inl e
    by_case (inr j) =
        let q = rises_where p r k j.0 are l j.1 (subst (λ t. RisesTo p t j.0) (sym here) j.2) in
        inr (q.0, omega (arith, q.1), q.2, rw q.3 j.2.1, rw q.3 j.3)

-- The same by what the code reads.
pub climb_on : (p : ProblemData) (at : Prices) (us : List ℕ) (r : RungsData) (k want i left : ℕ) (b : Product) (last : Option Product) (x y : List Bool)
    → AreSums p at.price us → AreRungs p r → k < length r.products → slice_index r.products k ≡ i → product_at p i ≡ b → 0 < want → slice_index us i ≡ want
    → Follows last (product_at p i) → pos left ≡ pos want -ℤ at.price i → IsClimbing p at us r k want last x y
    → IsClimbing p at us r (k + 1) left (Some b) x (slice_set y i true)
climb_on p at us r k want i left b last x y sums are l here item some is follows rest c =
    let s = sums.sums i (subst (λ t. t < product_count p) here (are.inside k l)) (omega arith) in
    let sum = s.2 in
    let e : s.0 ≡ left = omega (arith, ints) in
    subst (λ t. IsClimbing p at us r (k + 1) left (Some t) x (slice_set y i true)) item
    (climb_taken p at us r k want i left last x y are l here some is follows (subst (IsAbove p us i) e s.1) (omega (arith, ints)) c)

-- The product at place k doesn't.
pub climb_skipped : (p : ProblemData) (at : Prices) (us : List ℕ) (r : RungsData) (k want i : ℕ) (last : Option Product) (x y : List Bool)
    → slice_index r.products k ≡ i → (0 < want → slice_index us i ≡ want → Follows last (product_at p i) → ⊥)
    → IsClimbing p at us r k want last x y → IsClimbing p at us r (k + 1) want last x y
climb_skipped p at us r k want i last x y here off c = record {
  each = c.each;
  others = c.others;
  unused = c.unused;
  chain = c.chain;
  ends = c.ends;
  ahead = by_case c.ahead (cases_eq want 0);
  worth = c.worth;
}
  where
    by_case : IsAhead p us r k want last → ((want ≡ 0) ⊎ (want ≢ 0)) → IsAhead p us r (k + 1) want last
    by_case h (inl e) = inl e
    by_case (inl e) (inr ne) = inl e
    by_case (inr q) (inr ne) = inr (q.0, next (cases_eq q.0 k), q.2, q.3, q.4)
      where
        next : ((q.0 ≡ k) ⊎ (q.0 ≢ k)) → k + 1 ≤ q.0
        next (inl e) = absurd (off (omega arith) (subst (λ t. slice_index us t ≡ want) (ap (slice_index r.products) e ∙ here) q.4)
            (subst (λ t. Follows last (product_at p t)) (ap (slice_index r.products) e ∙ here) q.3))
        next (inr h) = omega (arith, q.1)

-- ---- The end.

-- A climb past the last rung has followed a greatest chain to its end.
pub climb_last : (p : ProblemData) (at : Prices) (us : List ℕ) (r : RungsData) (k want : ℕ) (last : Option Product) (x y : List Bool)
    → k ≡ length r.products → length x ≡ product_count p → IsClimbing p at us r k want last x y → HasClimbed p at us r.ladder x y
climb_last p at us r k want last x y e long c = record {
  each = let l = c.each in omega arith;
  others = c.others;
  unused = c.unused;
  chain = c.chain;
  worth = let none = spent c.ahead in let w = c.worth in omega (arith, ints);
}
  where
    spent : IsAhead p us r k want last → want ≡ 0
    spent (inl h) = h
    spent (inr q) = absurd (omega (arith, q.1, q.2))

-- What is missing beside a product is small, and no less than 0.
pub less_fits : (p : ProblemData) (price : ℕ → ℤ) (us : List ℕ) (i m : ℕ) → AreSums p price us → IsAbove p us i m → m ≤ number_bound
less_fits p price us i m are above = by_case above.reached
  where
    by_case : ((m ≡ 0) ⊎ ((j : ℕ) × (j < product_count p) × RisesTo p i j × (slice_index us j ≡ m))) → m ≤ number_bound
    by_case (inl e) = omega arith
    by_case (inr j) = subst (λ t. t ≤ number_bound) j.3 (are.small j.0 j.1)

-- Potentials of one ladder after the other, and that they fit.
use Rattle.std.proofs.Common.{◌≡◌, ◌≢◌, ℕ, ◌+◌, ◌-◌, ◌*◌, ◌<◌, ◌≤◌, Bool, true, false, List, length, Option, Some, refl, sym, ap, arith, subst, ◌∙◌, inl, inr}
use Rattle.std.specs.Prelude.{pos, negsuc, ◌+ℤ◌, ◌≤ℤ◌, ◌<ℤ◌, ◌⊎◌, slice_index, slice_set}
use Rattle.std.proofs.lemmas.Int.{ints}
use Rattle.std.proofs.lemmas.Bool.{cases_eq, cases_lt}
use Rattle.std.proofs.lemmas.List.{get_or-set_same, get_or-set_other}
use lib.IntN.{ℤ}
use Rattle.offer_model.specs.declared.node.Mark.{Mark}
use Rattle.offer_model.specs.declared.node.Mark.TheVariants.{Open}
use Rattle.offer_model.specs.declared.products.Product.{Product}
use Rattle.offer_model.specs.Problems.{ProblemData, product_count, product_at}
use Rattle.offer_model.specs.Limits.{MayStand}
use Rattle.offer_model.specs.Nodes.{mark_at}
use Rattle.offer_model.specs.Prices.{positive_part}
use Rattle.offer_model.specs.LeafBounds.{IsUsable, Rises, PotentialsFit, is_limited, ladder_of}
use Rattle.linear_step.specs.Weights.{price_bound, IsWithin}
use Rattle.table_steps.specs.LadderRungs.{RungsData, AreRungs, rungs_at}
use Rattle.table_steps.specs.LadderFits.{AreLadders}
use Rattle.table_steps.specs.LadderPotentials.{Follows, StandsBeside, IsGreatestAfter, RisesTo, IsAbove, IsPotential, HasRaised, AreRaised, ArePotentials, AreSums}
use Rattle.table_steps.proofs.LadderLimitLemmas.{ladder_where, ladder_limited}

-- ---- Products that stand together.

-- One of two products rises to the other exactly where they may stand together either way.
pub stand_from_rise : (a b : Product) → (Rises a b ⊎ Rises b a) → MayStand a b × MayStand b a
stand_from_rise a b (inl r) = let g = r.0 in let q = r.1 in ((λ e. absurd (omega arith), λ l. q), (λ e. absurd (omega arith), λ l. absurd (omega arith)))
stand_from_rise a b (inr r) = let g = r.0 in let q = r.1 in ((λ e. absurd (omega arith), λ l. absurd (omega arith)), (λ e. absurd (omega arith), λ l. q))

-- Of two products that may stand together one is above the other.
pub rise_from_stand : (a b : Product) → MayStand a b → MayStand b a → Rises a b ⊎ Rises b a
rise_from_stand a b m n = by_grade (cases_lt a.grade b.grade) (cases_lt b.grade a.grade)
  where
    by_grade : ((a.grade < b.grade) ⊎ (b.grade ≤ a.grade)) → ((b.grade < a.grade) ⊎ (a.grade ≤ b.grade)) → Rises a b ⊎ Rises b a
    by_grade (inl l) h = inl (l, m.1 l)
    by_grade (inr g) (inl l) = inr (l, n.1 l)
    by_grade (inr g) (inr h) = absurd (m.0 (omega arith))

-- A product of a limited ladder is usable where it is Open and may be offered beside what is In.
pub usable_from_beside : (p : ProblemData) (node : List Mark) (r : RungsData) (k : ℕ) → AreRungs p r → is_limited p.limits r.ladder ≡ true
    → k < length r.products → mark_at node (slice_index r.products k) ≡ Open → StandsBeside p node r.products (slice_index r.products k)
    → IsUsable p node (slice_index r.products k)
usable_from_beside p node r k are limited l o beside = record {
  open_mark = o;
  limited = rw (are.on k l) limited;
  fits = λ j lj inside same.
      let q = are.all j lj (same ∙ are.on k l) in
      stand_from_rise (product_at p (slice_index r.products k)) (product_at p j)
      (subst (λ t. Rises (product_at p (slice_index r.products k)) (product_at p t) ⊎ Rises (product_at p t) (product_at p (slice_index r.products k))) q.2
      (beside q.0 q.1 (rw q.2 inside)));
}

-- What may be used stands beside all that is In on its ladder.
pub beside_from_usable : (p : ProblemData) (node : List Mark) (r : RungsData) (k : ℕ) → AreRungs p r → k < length r.products
    → IsUsable p node (slice_index r.products k) → StandsBeside p node r.products (slice_index r.products k)
beside_from_usable p node r k are l u q lq inside =
    let both = u.fits (slice_index r.products q) (are.inside q lq) inside (are.on q lq ∙ sym (are.on k l)) in
    rise_from_stand (product_at p (slice_index r.products k)) (product_at p (slice_index r.products q)) both.0 both.1

-- ---- The greatest number above a product.

-- Of a ladder's products only those at higher places have a higher grade.
pub higher_place : (p : ProblemData) (r : RungsData) (k q : ℕ) → AreRungs p r → k < length r.products
    → Rises (product_at p (slice_index r.products k)) (product_at p (slice_index r.products q)) → k < q
higher_place p r k q are l rise = by_place (cases_lt k q)
  where
    by_place : ((k < q) ⊎ (q ≤ k)) → k < q
    by_place (inl h) = h
    by_place (inr h) = let g = are.rising q k h l in let g' = rise.0 in absurd (omega arith)

-- A product that another of the list rises to stands at a higher place.
pub rises_where : (p : ProblemData) (r : RungsData) (k j : ℕ) → AreRungs p r → k < length r.products → j < product_count p
    → RisesTo p (slice_index r.products k) j → (q : ℕ) × (k < q) × (q < length r.products) × (slice_index r.products q ≡ j)
rises_where p r k j are l lj rise =
    let q = are.all j lj (rise.0 ∙ are.on k l) in
    (q.0, higher_place p r k q.0 are l (rw q.2 rise.1), q.1, q.2)

-- The greatest potential of what follows on the list is the greatest of what stands above on the ladder.
pub above_from_after : (p : ProblemData) (us : List ℕ) (r : RungsData) (k m : ℕ) → AreRungs p r → k < length r.products
    → IsGreatestAfter p us r.products (Some (product_at p (slice_index r.products k))) (k + 1) (length r.products) m
    → IsAbove p us (slice_index r.products k) m
above_from_after p us r k m are l h = record {
  most = λ j lj rise.
      let q = rises_where p r k j are l lj rise in
      subst (λ t. slice_index us t ≤ m) q.3 (h.most q.0 (omega (arith, q.1)) q.2 (rw q.3 rise.1));
  reached = by_case h.reached;
}
  where
    by_case : ((m ≡ 0) ⊎ ((q : ℕ) × (k + 1 ≤ q) × (q < length r.products)
        × Rises (product_at p (slice_index r.products k)) (product_at p (slice_index r.products q)) × (slice_index us (slice_index r.products q) ≡ m)))
        → (m ≡ 0) ⊎ ((j : ℕ) × (j < product_count p) × RisesTo p (slice_index r.products k) j × (slice_index us j ≡ m))
    by_case (inl e) = inl e
    by_case (inr q) = inr (slice_index r.products q.0, are.inside q.0 q.2, (are.on q.0 q.2 ∙ sym (are.on k l), q.3), q.4)

-- A potential rests on the numbers of the products that its product rises to.
pub potential_kept : (p : ProblemData) (node : List Mark) (price : ℕ → ℤ) (us vs : List ℕ) (i u : ℕ)
    → ((j : ℕ) → j < product_count p → RisesTo p i j → slice_index vs j ≡ slice_index us j)
    → IsPotential p node price us i u → IsPotential p node price vs i u
potential_kept p node price us vs i u same (inr h) = inr h
potential_kept p node price us vs i u same (inl h) = inl (
  h.0,
  h.1,
  record {
    most = λ j lj rise. rw (same j lj rise) (h.2.most j lj rise);
    reached = by_case h.2.reached;
  },
  h.3,
)
  where
    by_case : ((h.1 ≡ 0) ⊎ ((j : ℕ) × (j < product_count p) × RisesTo p i j × (slice_index us j ≡ h.1)))
        → (h.1 ≡ 0) ⊎ ((j : ℕ) × (j < product_count p) × RisesTo p i j × (slice_index vs j ≡ h.1))
    by_case (inl e) = inl e
    by_case (inr j) = inr (j.0, j.1, j.2, same j.0 j.1 j.2 ∙ j.3)

-- ---- The potential of one product.

-- The number that is computed is the product's potential.
pub potential_is : (p : ProblemData) (node : List Mark) (price : ℕ → ℤ) (us : List ℕ) (r : RungsData) (k i m u : ℕ) (b : Product) → AreRungs p r
    → k < length r.products → slice_index r.products k ≡ i → product_at p i ≡ b → IsUsable p node (slice_index r.products k)
    → IsGreatestAfter p us r.products (Some b) (k + 1) (length r.products) m → pos u ≡ positive_part (price i +ℤ pos m)
    → IsPotential p node price us (slice_index r.products k) u
potential_is p node price us r k i m u b are l here item usable after e = inl (
  usable,
  m,
  above_from_after p us r k m are l (subst (λ t. IsGreatestAfter p us r.products (Some t) (k + 1) (length r.products) m)
      (sym (ap (product_at p) here ∙ item)) after),
  subst (λ t. pos u ≡ positive_part (price t +ℤ pos m)) (sym here) e,
)

part_small : (z : ℤ) (n u : ℕ) → z <ℤ pos n → pos u ≡ positive_part z → u ≤ n
part_small (pos a) n u l e = omega (arith, ints)
part_small (negsuc a) n u l e = omega (arith, ints)

-- It is at most one price above the greatest number.
pub potential_small : (p : ProblemData) (us list : List ℕ) (last : Option Product) (k m u : ℕ) (z : ℤ) → k < length list
    → IsGreatestAfter p us list last (k + 1) (length list) m
    → ((q : ℕ) → k < q → q < length list → slice_index us (slice_index list q) ≤ (length list - k - 1) * price_bound)
    → IsWithin price_bound z → pos u ≡ positive_part (z +ℤ pos m) → u ≤ (length list - k) * price_bound
potential_small p us list last k m u z l after small within e =
    let le = by_case after.reached in
    let high = within.0 in
    part_small (z +ℤ pos m) ((length list - k) * price_bound) u (omega (arith, ints)) e
  where
    by_case : ((m ≡ 0) ⊎ ((q : ℕ) × (k + 1 ≤ q) × (q < length list) × Follows last (product_at p (slice_index list q)) × (slice_index us (slice_index list q) ≡ m)))
        → m ≤ (length list - k - 1) * price_bound
    by_case (inl h) = omega arith
    by_case (inr q) = subst (λ t. t ≤ (length list - k - 1) * price_bound) q.4 (small q.0 (omega (arith, q.1)) q.2)

-- ---- Raising one ladder.

-- The potential of the product at place k is put in, where those at higher places stand.
pub raised_more : (p : ProblemData) (node : List Mark) (price : ℕ → ℤ) (r : RungsData) (us : List ℕ) (k u : ℕ) → AreRungs p r
    → length us ≡ product_count p → k < length r.products → IsPotential p node price us (slice_index r.products k) u
    → ((q : ℕ) → k + 1 ≤ q → q < length r.products → IsPotential p node price us (slice_index r.products q) (slice_index us (slice_index r.products q)))
    → (q : ℕ) → k ≤ q → q < length r.products
    → IsPotential p node price (slice_set us (slice_index r.products k) u) (slice_index r.products q) (slice_index (slice_set us (slice_index r.products k) u) (slice_index r.products q))
raised_more p node price r us k u are long l here above q kq lq = by_product (cases_eq (slice_index r.products q) (slice_index r.products k))
  where
    same : (s : ℕ) → k ≤ s → s < length r.products → (j : ℕ) → j < product_count p → RisesTo p (slice_index r.products s) j
        → slice_index (slice_set us (slice_index r.products k) u) j ≡ slice_index us j
    same s ks ls j lj rise = get_or-set_other us (slice_index r.products k) j u 0 (λ e.
        let g = are.rising k s ks ls in
        let g' = (rw e at rise.1).0 in
        absurd (omega arith))

    by_product : ((slice_index r.products q ≡ slice_index r.products k) ⊎ (slice_index r.products q ≢ slice_index r.products k))
        → IsPotential p node price (slice_set us (slice_index r.products k) u) (slice_index r.products q) (slice_index (slice_set us (slice_index r.products k) u) (slice_index r.products q))
    by_product (inl e) = subst (λ t. IsPotential p node price (slice_set us (slice_index r.products k) u) t (slice_index (slice_set us (slice_index r.products k) u) t)) (sym e)
        (subst (IsPotential p node price (slice_set us (slice_index r.products k) u) (slice_index r.products k))
        (sym (get_or-set_same us (slice_index r.products k) u 0 (let b = are.inside k l in omega arith)))
        (potential_kept p node price us (slice_set us (slice_index r.products k) u) (slice_index r.products k) u (same k (omega arith) l) here))
    by_product (inr ne) = subst (IsPotential p node price (slice_set us (slice_index r.products k) u) (slice_index r.products q))
        (sym (get_or-set_other us (slice_index r.products k) (slice_index r.products q) u 0 ne))
        (potential_kept p node price us (slice_set us (slice_index r.products k) u) (slice_index r.products q) (slice_index us (slice_index r.products q))
        (same q kq lq) (above q (next (cases_eq q k)) lq))
      where
        next : ((q ≡ k) ⊎ (q ≢ k)) → k + 1 ≤ q
        next (inl e) = absurd (ne (ap (slice_index r.products) e))
        next (inr h) = omega arith

-- Its number and those at higher places are small.
pub small_more : (us list : List ℕ) (k u most : ℕ) → slice_index list k < length us → u ≤ most
    → ((q : ℕ) → k + 1 ≤ q → q < length list → slice_index us (slice_index list q) ≤ most)
    → (q : ℕ) → k ≤ q → q < length list → slice_index (slice_set us (slice_index list k) u) (slice_index list q) ≤ most
small_more us list k u most l here above q kq lq = by_product (cases_eq (slice_index list q) (slice_index list k))
  where
    by_product : ((slice_index list q ≡ slice_index list k) ⊎ (slice_index list q ≢ slice_index list k))
        → slice_index (slice_set us (slice_index list k) u) (slice_index list q) ≤ most
    by_product (inl e) = rw (e, get_or-set_same us (slice_index list k) u 0 l) here
    by_product (inr ne) = rw (get_or-set_other us (slice_index list k) (slice_index list q) u 0 ne) (above q (next (cases_eq q k)) lq)
      where
        next : ((q ≡ k) ⊎ (q ≢ k)) → k + 1 ≤ q
        next (inl e) = absurd (ne (ap (slice_index list) e))
        next (inr h) = omega arith

-- Once the first rung is raised, the whole ladder has its potentials.
pub raised_end : (p : ProblemData) (node : List Mark) (price : ℕ → ℤ) (r : RungsData) (us vs : List ℕ) → AreRungs p r → length vs ≡ length us
    → ((q : ℕ) → 0 ≤ q → q < length r.products → IsPotential p node price vs (slice_index r.products q) (slice_index vs (slice_index r.products q)))
    → ((q : ℕ) → 0 ≤ q → q < length r.products → slice_index vs (slice_index r.products q) ≤ (length r.products - 0) * price_bound)
    → ((i : ℕ) → (ladder_of p i ≡ r.ladder → ⊥) → slice_index vs i ≡ slice_index us i) → HasRaised p node price r.ladder us vs
raised_end p node price r us vs are long potentials small others = record {
  each = long;
  potentials = λ i li on. let q = are.all i li on in subst (λ t. IsPotential p node price vs t (slice_index vs t)) q.2 (potentials q.0 (omega arith) q.1);
  others = others;
  small = λ i li on.
      let q = are.all i li on in
      let few = are.few in
      let s = subst (λ t. slice_index vs t ≤ (length r.products - 0) * price_bound) q.2 (small q.0 (omega arith) q.1) in
      omega arith;
}

-- ---- All ladders.

-- One more ladder is raised.
pub raised_all_more : (p : ProblemData) (node : List Mark) (price : ℕ → ℤ) (ladders : List RungsData) (k : ℕ) (us vs : List ℕ)
    → AreRaised p node price ladders k us → HasRaised p node price (rungs_at ladders k).ladder us vs → AreRaised p node price ladders (k + 1) vs
raised_all_more p node price ladders k us vs are has = record {
  each = let e = are.each in let e' = has.each in omega arith;
  potentials = λ j i lj li on. by_ladder j i lj li on (cases_eq (ladder_of p i) (rungs_at ladders k).ladder);
  rest = λ i li off. has.others i (off k (omega arith)) ∙ are.rest i li (λ j lj. off j (omega arith));
  small = λ i li. small i li (cases_eq (ladder_of p i) (rungs_at ladders k).ladder);
}
  where
    by_ladder : (j i : ℕ) → j < k + 1 → i < product_count p → ladder_of p i ≡ (rungs_at ladders j).ladder
        → ((ladder_of p i ≡ (rungs_at ladders k).ladder) ⊎ (ladder_of p i ≢ (rungs_at ladders k).ladder))
        → IsPotential p node price vs i (slice_index vs i)
    by_ladder j i lj li on (inl e) = has.potentials i li e
    by_ladder j i lj li on (inr ne) = subst (IsPotential p node price vs i) (sym (has.others i ne))
        (potential_kept p node price us vs i (slice_index us i) (λ h lh rise. has.others h (λ e. ne (sym rise.0 ∙ e)))
        (are.potentials j i (below (cases_eq j k)) li on))
      where
        below : ((j ≡ k) ⊎ (j ≢ k)) → j < k
        below (inl e) = absurd (ne (on ∙ ap (λ t. (rungs_at ladders t).ladder) e))
        below (inr h) = omega arith

    small : (i : ℕ) → i < product_count p → ((ladder_of p i ≡ (rungs_at ladders k).ladder) ⊎ (ladder_of p i ≢ (rungs_at ladders k).ladder))
        → slice_index vs i ≤ product_count p * price_bound
    small i li (inl e) = has.small i li e
    small i li (inr ne) = rw (has.others i ne) (are.small i li)

-- All ladders are raised: a product of none of them isn't usable.
pub raised_last : (p : ProblemData) (node : List Mark) (price : ℕ → ℤ) (ladders : List RungsData) (k : ℕ) (us : List ℕ) → AreLadders p ladders
    → k ≡ length p.limits → AreRaised p node price ladders k us → ArePotentials p node price us
raised_last p node price ladders k us are e raised = record {
  each = raised.each;
  potentials = λ i li. by_limit i li (cases_bool (is_limited p.limits (ladder_of p i)));
  small = λ i li. let s = raised.small i li in let few = are.valid.few in omega arith;
}
  where
    cases_bool : (b : Bool) → (b ≡ true) ⊎ (b ≡ true → ⊥)
    cases_bool true = inl refl
    cases_bool false = inr (λ h. cc)

    by_limit : (i : ℕ) → i < product_count p → ((is_limited p.limits (ladder_of p i) ≡ true) ⊎ (is_limited p.limits (ladder_of p i) ≡ true → ⊥))
        → IsPotential p node price us i (slice_index us i)
    by_limit i li (inl h) = let w = ladder_where p ladders (ladder_of p i) are h in raised.potentials w.0 i (omega (arith, w.1)) li w.2
    by_limit i li (inr off) = inr (
      λ u. off u.limited,
      raised.rest i li (λ j lj on. off (rw on (ladder_limited p ladders j are (let below = are.below.each in omega arith)))),
    )

-- ---- What potentials are good for.

part_most : (z : ℤ) → z ≤ℤ positive_part z
part_most (pos n) = omega (arith, ints)
part_most (negsuc n) = omega (arith, ints)

part_is : (z : ℤ) (u : ℕ) → 0 < u → pos u ≡ positive_part z → pos u ≡ z
part_is (pos n) u l e = e
part_is (negsuc n) u l e = absurd (omega (arith, ints))

pub potentials_fit : (p : ProblemData) (node : List Mark) (price : ℕ → ℤ) (us : List ℕ) → ArePotentials p node price us → PotentialsFit p node price us
potentials_fit p node price us are = record {
  each = are.each;
  unused = λ i li off. unused i off (are.potentials i li);
  alone = λ i li u. alone i u (are.potentials i li);
  chained = λ i j li lj ui uj on rise. chained i j lj ui (sym on) rise (are.potentials i li);
}
  where
    unused : (i : ℕ) → (IsUsable p node i → ⊥) → IsPotential p node price us i (slice_index us i) → slice_index us i ≡ 0
    unused i off (inl h) = absurd (off h.0)
    unused i off (inr h) = h.1

    alone : (i : ℕ) → IsUsable p node i → IsPotential p node price us i (slice_index us i) → price i ≤ℤ pos (slice_index us i)
    alone i u (inl h) = let e = h.3 in let most = part_most (price i +ℤ pos h.1) in omega (arith, ints)
    alone i u (inr h) = absurd (h.0 u)

    chained : (i j : ℕ) → j < product_count p → IsUsable p node i → ladder_of p j ≡ ladder_of p i → Rises (product_at p i) (product_at p j)
        → IsPotential p node price us i (slice_index us i) → (price i +ℤ pos (slice_index us j)) ≤ℤ pos (slice_index us i)
    chained i j lj u on rise (inl h) =
        let e = h.3 in
        let most = part_most (price i +ℤ pos h.1) in
        let le = h.2.most j lj (on, rise) in
        omega (arith, ints)
    chained i j lj u on rise (inr h) = absurd (h.0 u)

-- A product with a potential above 0 is usable.
pub usable_above_0 : (p : ProblemData) (node : List Mark) (price : ℕ → ℤ) (us : List ℕ) (i : ℕ) → 0 < slice_index us i
    → IsPotential p node price us i (slice_index us i) → IsUsable p node i
usable_above_0 p node price us i l (inl h) = h.0
usable_above_0 p node price us i l (inr h) = let e = h.1 in absurd (omega arith)

pub potentials_sums : (p : ProblemData) (node : List Mark) (price : ℕ → ℤ) (us : List ℕ) → ArePotentials p node price us → AreSums p price us
potentials_sums p node price us are = record {
  each = are.each;
  sums = λ i li l. sum i l (are.potentials i li);
  small = are.small;
}
  where
    sum : (i : ℕ) → 0 < slice_index us i → IsPotential p node price us i (slice_index us i)
        → (m : ℕ) × IsAbove p us i m × (pos (slice_index us i) ≡ price i +ℤ pos m)
    sum i l (inl h) = (h.1, h.2, part_is (price i +ℤ pos h.1) (slice_index us i) l h.3)
    sum i l (inr h) = let e = h.1 in absurd (omega arith)

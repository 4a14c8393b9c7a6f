-- Potentials bound what the products of ladders bring.
use Rattle.std.proofs.Common.{◌≡◌, ◌≢◌, ℕ, Bool, true, false, cond, not, ◌&&◌, List, [], ◌∷◌, refl, arith, suc, zero, ◌<◌, ◌≤◌, ◌+◌, max, eqb, leb, ltb, subst, inl, inr, ◌⊎◌, ⊎_elim, sym, ap, ◌∙◌, eq-eqb}
use Rattle.std.specs.Prelude.{pos, negsuc, ◌+ℤ◌, ◌≤ℤ◌, slice_index}
use Rattle.std.specs.List.{AllByRecursion}
use Rattle.std.proofs.lemmas.List.Elements.{recursion_from_All}
use Rattle.std.proofs.lemmas.Int.{ints}
use Rattle.std.proofs.lemmas.Bool.{eqb-true, eqb-false}
use Rattle.std.proofs.lemmas.Bool.Decides.{nat_tests}
use lib.IntN.{ℤ}
use Rattle.offer_model.specs.declared.node.Mark.{Mark}
use Rattle.offer_model.specs.declared.node.Mark.TheVariants.{In, Out, Open}
use Rattle.offer_model.specs.declared.products.Limit.{Limit}
use Rattle.offer_model.specs.declared.products.Limit.TheVariants.{Total, Category, Requires, Shelf, Ladder}
use Rattle.offer_model.specs.Assortments.{offers}
use Rattle.offer_model.specs.Prices.{int_sum_below, Prices, worth_of}
use Rattle.offer_model.specs.Problems.{ProblemData, product_count, product_at}
use Rattle.offer_model.specs.Limits.{IsFeasible, Meets}
use Rattle.offer_model.specs.Nodes.{Agrees, Completes, settled_node, settled_mark, is_open}
use Rattle.offer_model.specs.LeafBounds.{potentials_bound, PotentialsFit, IsUsable, is_limited, ladder_of, ladder_top, ladder_tops, most_beside}
use Rattle.offer_model.proofs.CompletionLemmas.{Completes-agrees, settled_completes}
use Rattle.offer_model.proofs.SumLemmas.{sum_mono, int_sum_below-add, int_sum_below-zeros}

-- ---- Sums over the products that pass a test.

abbrev pub sum_where : ℕ → (ℕ → Bool) → (ℕ → ℤ) → ℤ
sum_where n s f = int_sum_below n (λ i. cond (s i) (f i) (pos 0))

-- A sum over no product is 0.
pub sum_none : (n : ℕ) (s : ℕ → Bool) (f : ℕ → ℤ) → ((i : ℕ) → i < n → s i ≡ true → ⊥) → sum_where n s f ≡ pos 0
sum_none zero s f h = refl
sum_none (suc n) s f h =
    let before = sum_none n s f (λ i l. h i (omega arith)) in
    let here = none_here (s n) (f n) (h n (omega arith)) in
    omega (arith, ints)
  where
    none_here : (b : Bool) (z : ℤ) → (b ≡ true → ⊥) → cond b z (pos 0) ≡ pos 0
    none_here true z h = absurd (h refl)
    none_here false z h = refl

-- A sum over one product is its term.
pub sum_single : (n : ℕ) (s : ℕ → Bool) (f : ℕ → ℤ) (i : ℕ) → i < n → s i ≡ true → ((j : ℕ) → j < n → s j ≡ true → j ≡ i) → sum_where n s f ≡ f i
sum_single zero s f i l t one = absurd (omega arith)
sum_single (suc n) s f i l t one = elim (s n) as (λ v. s n ≡ v → sum_where n s f +ℤ cond v (f n) (pos 0) ≡ f i) [
  | true ↦ λ e.
      let same : n ≡ i = one n (omega arith) e in
      let others = sum_none n s f (λ j lj tj. let k = one j (omega arith) tj in omega arith) in
      rw (others, same) (omega (arith, ints))
  | false ↦ λ e.
      let below : i < n = last i n l (λ k. let e' : s n ≡ true = rw (← k) t in cc) in
      let before = sum_single n s f i below t (λ j lj tj. one j (omega arith) tj) in
      omega (arith, ints)
] refl
  where
    last : (i n : ℕ) → i < suc n → (i ≡ n → ⊥) → i < n
    last i n l h = omega arith

-- What holds below n and at n holds below n + 1.
pub by_last : (P : ℕ → Type 0) (n : ℕ) → ((i : ℕ) → i < n → P i) → P n → (i : ℕ) → i < suc n → P i
by_last P n below here i l = elim (ltb i n) as (λ v. ltb i n ≡ v → P i) [
  | true ↦ λ e. below i (grind (arith, nat_tests))
  | false ↦ λ e. let same : n ≡ i = grind (arith, nat_tests) in subst P same here
] refl

-- Some product passes the test, or none does.
pub find : (n : ℕ) (s : ℕ → Bool) → ((i : ℕ) × (i < n) × (s i ≡ true)) ⊎ ((i : ℕ) → i < n → s i ≡ true → ⊥)
find zero s = inr (λ i l t. omega arith)
find (suc n) s = elim (s n) as (λ v. s n ≡ v → ((i : ℕ) × (i < suc n) × (s i ≡ true)) ⊎ ((i : ℕ) → i < suc n → s i ≡ true → ⊥)) [
  | true ↦ λ e. inl (n, omega arith, e)
  | false ↦ λ e. ⊎_elim (λ f. inl (f.0, omega arith, f.2)) (λ h. inr (by_last (λ i. s i ≡ true → ⊥) n h (λ t. cc))) (find n s)
] refl

-- Finitely many numbers have a bound.
pub bounded : (n : ℕ) (f : ℕ → ℕ) → (g : ℕ) × ((i : ℕ) → i < n → f i < g)
bounded zero f = (0, λ i l. absurd (omega arith))
bounded (suc n) f = let b = bounded n f in (max b.0 (f n + 1), by_last (λ i. f i < max b.0 (f n + 1)) n (λ i l. let k = b.1 i l in omega arith) (omega arith))

-- Of two tests that both hold the first holds.
pub and_left : (a b : Bool) → (a && b) ≡ true → a ≡ true
and_left true b h = refl
and_left false b h = cc

-- And the second.
pub and_right : (a b : Bool) → (a && b) ≡ true → b ≡ true
and_right true b h = h
and_right false b h = cc

-- What is from grade m on is not below it.
pub none_from : (b : Bool) (m g : ℕ) → (b && leb m g) ≡ true → g < m → ⊥
none_from true m g t l = grind (arith, nat_tests)
none_from false m g t l = cc

-- From a grade on is at that grade or from the next on.
pub split : (b : Bool) (m g : ℕ) (z : ℤ) → cond (b && leb m g) z (pos 0) ≡ cond (b && leb (suc m) g) z (pos 0) +ℤ cond (b && eqb g m) z (pos 0)
split false m g z = refl
split true m g z = grind (arith, nat_tests, ints)

-- From grade 0 on is all.
pub whole : (b : Bool) (g : ℕ) (z : ℤ) → cond b z (pos 0) ≡ cond (b && leb 0 g) z (pos 0) +ℤ pos 0
whole true g z = grind (arith, nat_tests, ints)
whole false g z = refl

-- ---- One ladder: members of a set that may stand together.

module _ (n : ℕ) (s : ℕ → Bool) (price : ℕ → ℤ) (grade cost top : ℕ → ℕ)
    (alone : (i : ℕ) → i < n → s i ≡ true → price i ≤ℤ pos (top i))
    (apart : (i j : ℕ) → i < n → j < n → s i ≡ true → s j ≡ true → i ≢ j → (grade i ≢ grade j) × (grade i < grade j → cost i ≤ cost j))
    (chained : (i j : ℕ) → i < n → j < n → s i ≡ true → s j ≡ true → grade i < grade j → cost i ≤ cost j → (price i +ℤ pos (top j)) ≤ℤ pos (top i))
  where
    from : ℕ → ℕ → Bool
    from m i = s i && leb m (grade i)

    -- The products of grade m or a higher one bring nothing, or at most the number of one of them.
    Rises : ℕ → Type 0
    Rises m = (sum_where n (from m) price ≤ℤ pos 0) ⊎ ((i : ℕ) × (i < n) × (s i ≡ true) × (m ≤ grade i) × (sum_where n (from m) price ≤ℤ pos (top i)))

    at : ℕ → ℕ → Bool
    at m i = s i && eqb (grade i) m

    only : (m i j : ℕ) → i < n → j < n → s i ≡ true → grade i ≡ m → at m j ≡ true → j ≡ i
    unfolding at
    only m i j li lj si gi t =
        let sj : s j ≡ true = and_left (s j) (eqb (grade j) m) t in
        let gj : grade j ≡ m = eqb-true (grade j) m (and_right (s j) (eqb (grade j) m) t) in
        elim (eqb j i) as (λ v. eqb j i ≡ v → j ≡ i) [
          | true ↦ λ e. eqb-true j i e
          | false ↦ λ e. absurd ((apart j i lj li sj si (eqb-false j i e)).0 (omega arith))
        ] refl

    differ : (m i j : ℕ) → grade i < grade j → i ≢ j
    differ m i j h e = let k = ap grade e in omega arith

    -- The product of grade m goes before those of higher grades.
    with_one : (m i : ℕ) → i < n → at m i ≡ true → Rises (suc m) → Rises m
    unfolding at from Rises
    with_one m i l t r =
        let si : s i ≡ true = and_left (s i) (eqb (grade i) m) t in
        let gi : grade i ≡ m = eqb-true (grade i) m (and_right (s i) (eqb (grade i) m) t) in
        let parts = int_sum_below-add n (λ j. cond (from m j) (price j) (pos 0)) (λ j. cond (from (suc m) j) (price j) (pos 0)) (λ j. cond (at m j) (price j) (pos 0)) (λ j lj. split (s j) m (grade j) (price j)) in
        let one = sum_single n (at m) price i l t (λ j lj tj. only m i j l lj si gi tj) in
        let own = alone i l si in
        inr (
          i,
          l,
          si,
          omega arith,
          ⊎_elim (λ k. omega (arith, ints))
              (λ k. let up : grade i < grade k.0 = omega (arith, k.3) in
              let ch = chained i k.0 l k.1 si k.2 up ((apart i k.0 l k.1 si k.2 (differ m i k.0 up)).1 up) in
              let last = k.4 in omega (arith, ints)) r,
        )

    without_one : (m : ℕ) → ((i : ℕ) → i < n → at m i ≡ true → ⊥) → Rises (suc m) → Rises m
    unfolding at from Rises
    without_one m none r =
        let parts = int_sum_below-add n (λ j. cond (from m j) (price j) (pos 0)) (λ j. cond (from (suc m) j) (price j) (pos 0)) (λ j. cond (at m j) (price j) (pos 0)) (λ j lj. split (s j) m (grade j) (price j)) in
        let zero_sum = sum_none n (at m) price none in
        ⊎_elim (λ k. inl (omega (arith, ints))) (λ k. inr (k.0, k.1, k.2, omega (arith, k.3), let last = k.4 in omega (arith, ints))) r

    rises : (d m : ℕ) → ((i : ℕ) → i < n → grade i < m + d) → Rises m
    unfolding from Rises at
    rises zero m h = inl (rw (sum_none n (from m) price (λ i l t. let small = h i l in none_from (s i) m (grade i) t (omega arith))) (omega (arith, ints)))
    rises (suc d) m h = ⊎_elim
        (λ f. with_one m f.0 f.1 f.2 (rises d (suc m) (λ i l. let k = h i l in omega arith)))
        (λ none. without_one m none (rises d (suc m) (λ i l. let k = h i l in omega arith)))
        (find n (at m))

    -- All together bring at most the greatest number.
    brings : (most : ℕ) → ((i : ℕ) → i < n → s i ≡ true → top i ≤ most) → sum_where n s price ≤ℤ pos most
    unfolding from Rises
    brings most h =
        let b = bounded n grade in
        let all = int_sum_below-add n (λ i. cond (s i) (price i) (pos 0)) (λ i. cond (from 0 i) (price i) (pos 0)) (λ i. pos 0) (λ i l. whole (s i) (grade i) (price i)) in
        let zeros = int_sum_below-zeros n (λ i. pos 0) (λ i l. refl) in
        ⊎_elim (λ k. omega (arith, ints))
        (λ k. let le = h k.0 k.1 k.2 in let last = k.4 in omega (arith, ints))
        (rises b.0 0 (λ i l. let k = b.1 i l in omega arith))

-- ---- All ladders.

-- What isn't the first of two is the second.
pub later : (a b : Bool) → not a ≡ true → cond a true b ≡ true → b ≡ true
later true b n t = cc
later false b n t = t

-- A term, by whether a second test passes.
pub two : (b e : Bool) (z : ℤ) → cond b z (pos 0) ≡ cond (b && e) z (pos 0) +ℤ cond (b && not e) z (pos 0)
two false e z = refl
two true true z = omega (arith, ints)
two true false z = omega (arith, ints)

-- What tests as Open is.
pub is_open-true : (m : Mark) → is_open m ≡ true → m ≡ Open
is_open-true In h = cc
is_open-true Out h = cc
is_open-true Open h = refl

-- What a completion adds to the fixed part: offered products that are Open at the node and on limited ladders.
abbrev pub chosen : ProblemData → List Mark → List Bool → ℕ → Bool
chosen p node y i = offers y i && (is_open (settled_mark p node i) && is_limited p.limits (ladder_of p i))

-- A product is beside the ladders or chosen on one.
pub apart_term : (m : Mark) (v limited : Bool) (z : ℤ) → Agrees m v → cond v z (pos 0) ≤ℤ (most_beside m limited z +ℤ cond (v && (is_open m && limited)) z (pos 0))
apart_term In true limited z a = omega (arith, ints)
apart_term In false limited z a = cc
apart_term Out true limited z a = cc
apart_term Out false limited z a = omega (arith, ints)
apart_term Open true true z a = omega (arith, ints)
apart_term Open true false (pos n) a = omega (arith, ints)
apart_term Open true false (negsuc n) a = omega (arith, ints)
apart_term Open false true z a = omega (arith, ints)
apart_term Open false false (pos n) a = omega (arith, ints)
apart_term Open false false (negsuc n) a = omega (arith, ints)

-- A potential is at most the greatest of its ladder.
pub top_le : (p : ProblemData) (us : List ℕ) (l n i : ℕ) → i < n → ladder_of p i ≡ l → slice_index us i ≤ ladder_top p us l n
top_le p us l zero i h e = absurd (omega arith)
top_le p us l (suc n) i h e = by_last (λ i. ladder_of p i ≡ l → slice_index us i ≤ ladder_top p us l (suc n)) n
    (λ i h e. let k = top_le p us l n i h e in omega arith)
    (λ e. let t : eqb (ladder_of p n) l ≡ true = eq-eqb (ladder_of p n) l e in rw t (omega arith)) i h e

module _ (p : ProblemData) (node : List Mark) (us : List ℕ) (price : ℕ → ℤ) (y : List Bool) (c : Completes (settled_node p node) y) (k : PotentialsFit p node price us) where
  usable : (i l : ℕ) → i < product_count p → chosen p node y i ≡ true → ladder_of p i ≡ l → Meets p y (Ladder l) → IsUsable p node i
  usable i l li t e m =
      let on : offers y i ≡ true = and_left (offers y i) (is_open (settled_mark p node i) && is_limited p.limits (ladder_of p i)) t in
      let rest = and_right (offers y i) (is_open (settled_mark p node i) && is_limited p.limits (ladder_of p i)) t in
      let o : settled_mark p node i ≡ Open = is_open-true (settled_mark p node i) (and_left (is_open (settled_mark p node i)) (is_limited p.limits (ladder_of p i)) rest) in
      record {
        open_mark = o;
        limited = and_right (is_open (settled_mark p node i)) (is_limited p.limits (ladder_of p i)) rest;
        fits = λ j lj inside same.
            let there : offers y j ≡ true = rw inside at (Completes-agrees (settled_node p node) y c j) in
            let d : i ≢ j = λ e. let o' : settled_mark p node j ≡ Open = rw (← e) o in cc in
            (m i j li lj d on there e (same ∙ e), m j i lj li (λ e. d (sym e)) there on (same ∙ e) e);
      }

  one_ladder : (l : ℕ) (s : ℕ → Bool) → Meets p y (Ladder l) → ((i : ℕ) → i < product_count p → s i ≡ true → chosen p node y i ≡ true)
      → ((i : ℕ) → i < product_count p → s i ≡ true → ladder_of p i ≡ l) → sum_where (product_count p) s price ≤ℤ pos (ladder_top p us l (product_count p))
  one_ladder l s m ch la = brings (product_count p) s price (λ i. (product_at p i).grade) (λ i. (product_at p i).price) (λ i. slice_index us i)
      (λ i li t. k.alone i li (usable i l li (ch i li t) (la i li t) m))
      (λ i j li lj ti tj d. m i j li lj d (and_left (offers y i) _ (ch i li ti)) (and_left (offers y j) _ (ch j lj tj)) (la i li ti) (la j lj tj))
      (λ i j li lj ti tj g q. k.chained i j li lj (usable i l li (ch i li ti) (la i li ti) m) (usable j l lj (ch j lj tj) (la j lj tj) m) (la i li ti ∙ sym (la j lj tj)) (g, q))
      (ladder_top p us l (product_count p))
      (λ i li t. top_le p us l (product_count p) i li (la i li t))

  all_ladders : (limits : List Limit) (s : ℕ → Bool) → AllByRecursion (Meets p y) limits → ((i : ℕ) → i < product_count p → s i ≡ true → chosen p node y i ≡ true)
      → ((i : ℕ) → i < product_count p → s i ≡ true → is_limited limits (ladder_of p i) ≡ true) → sum_where (product_count p) s price ≤ℤ pos (ladder_tops p us limits)
  all_ladders [] s m ch li = rw (sum_none (product_count p) s price (λ i l t. let k = li i l t in cc)) (omega (arith, ints))
  all_ladders (Ladder l ∷ limits) s m ch li =
      let here = one_ladder l (λ i. s i && eqb l (ladder_of p i)) m.0 (λ i h t. ch i h (and_left (s i) (eqb l (ladder_of p i)) t))
      (λ i h t. sym (eqb-true l (ladder_of p i) (and_right (s i) (eqb l (ladder_of p i)) t))) in
      let rest = all_ladders limits (λ i. s i && not (eqb l (ladder_of p i))) m.1 (λ i h t. ch i h (and_left (s i) (not (eqb l (ladder_of p i))) t))
      (λ i h t. later (eqb l (ladder_of p i)) (is_limited limits (ladder_of p i)) (and_right (s i) (not (eqb l (ladder_of p i))) t) (li i h (and_left (s i) (not (eqb l (ladder_of p i))) t))) in
      let parts = int_sum_below-add (product_count p) (λ i. cond (s i) (price i) (pos 0)) (λ i. cond (s i && eqb l (ladder_of p i)) (price i) (pos 0)) (λ i. cond (s i && not (eqb l (ladder_of p i))) (price i) (pos 0))
      (λ i h. two (s i) (eqb l (ladder_of p i)) (price i)) in
      omega (arith, ints)
  all_ladders (Total cap ∷ limits) s m ch li = all_ladders limits s m.1 ch li
  all_ladders (Category d cap ∷ limits) s m ch li = all_ladders limits s m.1 ch li
  all_ladders (Shelf cap ∷ limits) s m ch li = all_ladders limits s m.1 ch li
  all_ladders (Requires a d ∷ limits) s m ch li = all_ladders limits s m.1 ch li

-- The bound of potentials is at least what a feasible completion is worth.
pub potentials_hold : (p : ProblemData) (node : List Mark) (us : List ℕ) (b : Prices) (y : List Bool) → Completes node y → IsFeasible p y
    → PotentialsFit p node b.price us → worth_of p b y ≤ℤ potentials_bound p node us b
potentials_hold p node us b y agree f k =
    let c = settled_completes p node y f agree in
    let apart = sum_mono (product_count p) (λ i. cond (offers y i) (b.price i) (pos 0)) (λ i. most_beside (settled_mark p node i) (is_limited p.limits (ladder_of p i)) (b.price i) +ℤ cond (chosen p node y i) (b.price i) (pos 0))
    (λ i h. apart_term (settled_mark p node i) (offers y i) (is_limited p.limits (ladder_of p i)) (b.price i) (Completes-agrees (settled_node p node) y c i)) in
    let parts = int_sum_below-add (product_count p) (λ i. most_beside (settled_mark p node i) (is_limited p.limits (ladder_of p i)) (b.price i) +ℤ cond (chosen p node y i) (b.price i) (pos 0))
    (λ i. most_beside (settled_mark p node i) (is_limited p.limits (ladder_of p i)) (b.price i)) (λ i. cond (chosen p node y i) (b.price i) (pos 0)) (λ i h. refl) in
    let most = all_ladders p node us b.price y c k p.limits (chosen p node y) (recursion_from_All (Meets p y) p.limits f.1) (λ i h t. t)
    (λ i h t. and_right (is_open (settled_mark p node i)) (is_limited p.limits (ladder_of p i)) (and_right (offers y i) (is_open (settled_mark p node i) && is_limited p.limits (ladder_of p i)) t)) in
    omega (arith, ints)

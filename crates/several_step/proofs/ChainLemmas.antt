-- The bound by chains is sound: no feasible completion is worth more, whatever the order of the rungs.
use Rattle.std.proofs.Common.{set, get_or, get_or-set_same, get_or-set_other, add-one, ◌≡◌, ◌≢◌, ℕ, zero, suc, ◌+◌, ◌*◌, ◌^◌, ◌<◌, ◌≤◌, Bool, true, false, cond, not, ◌&&◌, ◌||◌, List, length, refl, sym, ◌∙◌, ap, subst, arith, eqb, ltb, leb, eq-eqb, inl, inr, ◌⊎◌, ⊎_elim}
use Rattle.std.specs.Prelude.{pos, negsuc, ◌+ℤ◌, ◌≤ℤ◌}
use lib.IntN.{ℤ}
use Rattle.std.specs.Int.{int_max}
use Rattle.std.specs.List.{All, Contains}
use Rattle.std.proofs.lemmas.Int.{ints, clamps}
use Rattle.std.proofs.lemmas.Bool.{cases_eq, eqb-true, eqb-false}
use Rattle.std.proofs.lemmas.Bool.Decides.{nat_tests}
use Rattle.std.proofs.lemmas.List.{get_or_default}
use Rattle.std.proofs.lemmas.List.Elements.{All-contains, All-get_or}
use Rattle.offer_model.specs.declared.node.Mark.{Mark}
use Rattle.offer_model.specs.declared.node.Mark.TheVariants.{In, Out, Open}
use Rattle.offer_model.specs.declared.products.Product.{Product}
use Rattle.offer_model.specs.declared.products.Limit.TheVariants.{Ladder}
use Rattle.offer_model.specs.Assortments.{offers}
use Rattle.offer_model.specs.Problems.{ProblemData, product_count, product_at, no_product}
use Rattle.offer_model.specs.Limits.{MayStand, Meets, IsFeasible}
use Rattle.offer_model.specs.Nodes.{mark_at, Agrees, Completes, is_in, is_open}
use Rattle.offer_model.specs.Prices.{Prices, int_sum_below, worth_of}
use Rattle.offer_model.specs.LeafBounds.{most_beside}
use Rattle.offer_model.proofs.CompletionLemmas.{Completes-agrees}
use Rattle.offer_model.proofs.PotentialLemmas.{sum_where, sum_none, sum_single, and_left, and_right, is_open-true}
use Rattle.offer_model.proofs.SumLemmas.{int_sum_below-zeros, int_sum_below-add, int_sum_below-same, sum_mono}
use Rattle.linear_weights.specs.Weights.{IsWithin, WeightsData, weight_at}
use Rattle.several_step.specs.ChainFits.{IsList, FitRungs, HasPrices}
use Rattle.several_step.specs.declared.rungs.Rung.{Rung}
use Rattle.several_step.specs.Chains.{rises, stands, rung_at, all_below, is_positive, is_usable, best_chain, chain_of, flag_at, chains_bound, IsRung, AreRungs}

-- ---- One chain.

max_left : (z a b : ℤ) → z ≤ℤ a → z ≤ℤ int_max a b
max_left z a b h = omega (arith, ints, clamps)

max_right : (z a b : ℤ) → z ≤ℤ b → z ≤ℤ int_max a b
max_right z a b h = omega (arith, ints, clamps)

-- A chain brings something or nothing.
pub chain_low : (usable : ℕ → Bool) (stand : ℕ → ℕ → Bool) (price : ℕ → ℤ) (k : ℕ) (test : ℕ → Bool)
    → pos 0 ≤ℤ best_chain usable stand price k test
chain_low usable stand price zero test = omega (arith, ints)
chain_low usable stand price (suc k) test = max_left (pos 0) _ _ (chain_low usable stand price k test)

-- What is taken brings at most the best chain, where it is usable, passes the test and may stand together.
pub chain_most : (usable : ℕ → Bool) (stand : ℕ → ℕ → Bool) (price : ℕ → ℤ) (taken : ℕ → Bool) (k : ℕ) (test : ℕ → Bool)
    → ((q : ℕ) → q < k → taken q ≡ true → usable q ≡ true) → ((q : ℕ) → q < k → taken q ≡ true → test q ≡ true)
    → ((q r : ℕ) → q < r → r < k → taken q ≡ true → taken r ≡ true → stand q r ≡ true)
    → int_sum_below k (λ q. cond (taken q) (price q) (pos 0)) ≤ℤ best_chain usable stand price k test
chain_most usable stand price taken zero test u t s = omega (arith, ints)
chain_most usable stand price taken (suc k) test u t s = elim (taken k) as (λ v. taken k ≡ v
    → (int_sum_below k (λ q. cond (taken q) (price q) (pos 0)) +ℤ cond v (price k) (pos 0)) ≤ℤ best_chain usable stand price (suc k) test) [
      | true ↦ λ e.
          let before = chain_most usable stand price taken k (λ q. stand q k) (λ q l. u q (omega arith)) (λ q l f. s q k l (omega arith) f e)
          (λ q r l m. s q r l (omega arith)) in
          rw (t k (omega arith) e, u k (omega arith) e)
          (max_right (int_sum_below k (λ q. cond (taken q) (price q) (pos 0)) +ℤ price k) (best_chain usable stand price k test)
          (price k +ℤ best_chain usable stand price k (λ q. stand q k)) (omega (arith, ints)))
      | false ↦ λ e.
          let before = chain_most usable stand price taken k test (λ q l. u q (omega arith)) (λ q l. t q (omega arith)) (λ q r l m. s q r l (omega arith)) in
          max_left (int_sum_below k (λ q. cond (taken q) (price q) (pos 0)) +ℤ pos 0) (best_chain usable stand price k test)
          (cond (test k) (cond (usable k) (price k +ℤ best_chain usable stand price k (λ q. stand q k)) (pos 0)) (pos 0)) (omega (arith, ints))
    ] refl

max_most : (a b m : ℤ) → a ≤ℤ m → b ≤ℤ m → int_max a b ≤ℤ m
max_most a b m h k = omega (arith, ints, clamps)

-- A chain brings at most so much for each rung.
pub chain_high : (usable : ℕ → Bool) (stand : ℕ → ℕ → Bool) (price : ℕ → ℤ) (most k : ℕ) (test : ℕ → Bool)
    → ((q : ℕ) → q < k → price q ≤ℤ pos most) → best_chain usable stand price k test ≤ℤ pos (k * most)
chain_high usable stand price most zero test h = omega (arith, ints)
chain_high usable stand price most (suc k) test h =
    let before = chain_high usable stand price most k test (λ q l. h q (omega arith)) in
    let with = chain_high usable stand price most k (λ q. stand q k) (λ q l. h q (omega arith)) in
    let here = h k (omega arith) in
    max_most _ _ _ (omega (arith, ints)) (by_tests (test k) (usable k) (price k) (best_chain usable stand price k (λ q. stand q k)) here with)
  where
    by_tests : (t u : Bool) (z b : ℤ) → z ≤ℤ pos most → b ≤ℤ pos (k * most) → cond t (cond u (z +ℤ b) (pos 0)) (pos 0) ≤ℤ pos (suc k * most)
    by_tests true true z b h m = omega (arith, ints)
    by_tests true false z b h m = omega (arith, ints)
    by_tests false u z b h m = omega (arith, ints)

-- ---- Sums over products and over places.

-- A sum over products of what is at places is at most the sum over the places.
point : (n a : ℕ) (g : ℕ → ℤ) → pos 0 ≤ℤ g a → sum_where n (λ i. eqb i a) g ≤ℤ g a
point n a g low = elim (ltb a n) as (λ v. ltb a n ≡ v → sum_where n (λ i. eqb i a) g ≤ℤ g a) [
  | true ↦ λ e.
      let same = sum_single n (λ i. eqb i a) g a (grind (arith, nat_tests)) (eq-eqb a a refl) (λ j l t. eqb-true j a t) in
      omega (arith, ints)
  | false ↦ λ e.
      let none = sum_none n (λ i. eqb i a) g (λ i l t. out i l (eqb-true i a t) e) in
      omega (arith, ints)
] refl
  where
    out : (i : ℕ) → i < n → i ≡ a → ltb a n ≡ false → ⊥
    out i l same e = grind (arith, nat_tests)

part : (b : Bool) (z : ℤ) → z ≡ cond b (pos 0) z +ℤ cond b z (pos 0)
part true z = omega (arith, ints)
part false z = omega (arith, ints)

pub covered : (n k : ℕ) (at : ℕ → ℕ) (g : ℕ → ℤ) → ((i : ℕ) → pos 0 ≤ℤ g i)
    → ((i : ℕ) → i < n → (g i ≡ pos 0) ⊎ ((q : ℕ) × (q < k) × (at q ≡ i))) → int_sum_below n g ≤ℤ int_sum_below k (λ q. g (at q))
covered n zero at g low there =
    let none = int_sum_below-zeros n g (λ i l. ⊎_elim (λ e. e) (λ h. absurd (omega (arith, h.1))) (there i l)) in
    omega (arith, ints)
covered n (suc k) at g low there =
    let before = covered n k at (λ i. cond (eqb i (at k)) (pos 0) (g i)) (λ i. less_low (eqb i (at k)) (g i) (low i)) (λ i l. others i (there i l)) in
    let fewer = sum_mono k (λ q. cond (eqb (at q) (at k)) (pos 0) (g (at q))) (λ q. g (at q)) (λ q l. less_most (eqb (at q) (at k)) (g (at q)) (low (at q))) in
    let parts = int_sum_below-add n g (λ i. cond (eqb i (at k)) (pos 0) (g i)) (λ i. cond (eqb i (at k)) (g i) (pos 0)) (λ i l. part (eqb i (at k)) (g i)) in
    let one = point n (at k) g (low (at k)) in
    omega (arith, ints)
  where
    less_low : (b : Bool) (z : ℤ) → pos 0 ≤ℤ z → pos 0 ≤ℤ cond b (pos 0) z
    less_low true z h = omega (arith, ints)
    less_low false z h = h

    less_most : (b : Bool) (z : ℤ) → pos 0 ≤ℤ z → cond b (pos 0) z ≤ℤ z
    less_most true z h = h
    less_most false z h = omega (arith, ints)

    none_left : (b : Bool) (z : ℤ) → (b ≡ true) ⊎ (z ≡ pos 0) → cond b (pos 0) z ≡ pos 0
    none_left true z h = refl
    none_left false z h = ⊎_elim (λ e. cc) (λ e. e) h

    others : (i : ℕ) → (g i ≡ pos 0) ⊎ ((q : ℕ) × (q < suc k) × (at q ≡ i))
        → (cond (eqb i (at k)) (pos 0) (g i) ≡ pos 0) ⊎ ((q : ℕ) × (q < k) × (at q ≡ i))
    others i (inl e) = inl (none_left (eqb i (at k)) (g i) (inr e))
    others i (inr h) = ⊎_elim
        (λ e. inl (none_left (eqb i (at k)) (g i) (inl (eq-eqb i (at k) (sym h.2 ∙ ap at e)))))
        (λ ne. inr (h.0, omega (arith, h.1), h.2)) (cases_eq h.0 k)

-- ---- What may stand together.

-- A test that holds for all holds below.
pub all_yes : (n : ℕ) (test : ℕ → Bool) → ((i : ℕ) → i < n → test i ≡ true) → all_below n test ≡ true
all_yes zero test h = refl
all_yes (suc n) test h = rw (all_yes n test (λ i l. h i (omega arith)), h n (omega arith)) refl

-- One that fails for some doesn't.
pub all_no : (n i : ℕ) (test : ℕ → Bool) → i < n → test i ≡ false → all_below n test ≡ false
all_no zero i test l e = absurd (omega arith)
all_no (suc n) i test l e = ⊎_elim (λ (s : i ≡ n). last (all_below n test) (test n) (ap test (sym s) ∙ e))
    (λ ne. first (all_below n test) (test n) (all_no n i test (omega arith) e)) (cases_eq i n)
  where
    last : (a b : Bool) → b ≡ false → (a && b) ≡ false
    last true b h = h
    last false b h = refl

    first : (a b : Bool) → a ≡ false → (a && b) ≡ false
    first true b h = cc
    first false b h = refl

rises_one : (a b : Product) → MayStand a b → MayStand b a → (rises a b || rises b a) ≡ true
rises_one a b m k = by_grades (ltb a.grade b.grade) (ltb b.grade a.grade) refl refl
  where
    by_grades : (v w : Bool) → ltb a.grade b.grade ≡ v → ltb b.grade a.grade ≡ w
        → ((v && leb a.price b.price) || (w && leb b.price a.price)) ≡ true
    by_grades true w e f =
        let less : a.grade < b.grade = grind (arith, nat_tests) in
        let cost = m.1 less in
        let t : leb a.price b.price ≡ true = grind (arith, nat_tests) in
        rw t refl
    by_grades false true e f =
        let less : b.grade < a.grade = grind (arith, nat_tests) in
        let cost = k.1 less in
        let t : leb b.price a.price ≡ true = grind (arith, nat_tests) in
        rw t refl
    by_grades false false e f = let ne = m.0 in absurd (ne (grind (arith, nat_tests)))

-- Products that may stand together where they share a ladder stand.
pub stand_if : (a b : Rung) → (a.at ≢ b.at → a.product.ladder ≡ b.product.ladder → MayStand a.product b.product × MayStand b.product a.product)
    → stands a b ≡ true
stand_if a b h = by_places (eqb a.at b.at) (eqb a.product.ladder b.product.ladder) refl refl
  where
    by_places : (v w : Bool) → eqb a.at b.at ≡ v → eqb a.product.ladder b.product.ladder ≡ w
        → (v || (not w || (rises a.product b.product || rises b.product a.product))) ≡ true
    by_places true w e f = refl
    by_places false false e f = refl
    by_places false true e f =
        let m = h (eqb-false a.at b.at e) (eqb-true a.product.ladder b.product.ladder f) in
        rises_one a.product b.product m.0 m.1

-- ---- The bound.

-- Whether a product is offered, Open, marked as limited and dearer than 0.
abbrev pub is_taken : List Mark → List Bool → (ℕ → ℤ) → List Bool → ℕ → Bool
is_taken node limited price y i = offers y i && (is_open (mark_at node i) && (flag_at limited i && is_positive (price i)))

-- A product is beside the ladders or taken.
beside_or_taken : (m : Mark) (v limited : Bool) (z : ℤ) → Agrees m v
    → cond v z (pos 0) ≤ℤ (most_beside m limited z +ℤ cond (v && (is_open m && (limited && is_positive z))) z (pos 0))
beside_or_taken In true limited z a = omega (arith, ints)
beside_or_taken In false limited z a = cc
beside_or_taken Out true limited z a = cc
beside_or_taken Out false limited z a = omega (arith, ints)
beside_or_taken Open true true (pos zero) a = omega (arith, ints)
beside_or_taken Open true true (pos (suc n)) a = omega (arith, ints)
beside_or_taken Open true true (negsuc n) a = omega (arith, ints)
beside_or_taken Open true false (pos n) a = omega (arith, ints)
beside_or_taken Open true false (negsuc n) a = omega (arith, ints)
beside_or_taken Open false true z a = omega (arith, ints)
beside_or_taken Open false false (pos n) a = omega (arith, ints)
beside_or_taken Open false false (negsuc n) a = omega (arith, ints)

taken_low : (a b c : Bool) (z : ℤ) → pos 0 ≤ℤ cond (a && (b && (c && is_positive z))) z (pos 0)
taken_low true true true (pos zero) = omega (arith, ints)
taken_low true true true (pos (suc n)) = omega (arith, ints)
taken_low true true true (negsuc n) = omega (arith, ints)
taken_low true true false z = omega (arith, ints)
taken_low true false c z = omega (arith, ints)
taken_low false b c z = omega (arith, ints)

module _ (p : ProblemData) (node : List Mark) (at : Prices) (rungs : List Rung) (limited : List Bool) (y : List Bool)
    (are : AreRungs p rungs limited) (c : Completes node y) (f : IsFeasible p y)
  where
    rung_is : (q : ℕ) → q < length rungs → IsRung p (rung_at rungs q)
    rung_is q l = All-get_or (IsRung p) rungs q (record { at = 0; product = no_product }) l are.are

    -- Two rungs that are offered stand.
    both_stand : (q r : ℕ) → q < length rungs → r < length rungs → offers y (rung_at rungs q).at ≡ true → offers y (rung_at rungs r).at ≡ true
        → stands (rung_at rungs q) (rung_at rungs r) ≡ true
    both_stand q r lq lr oq or = stand_if (rung_at rungs q) (rung_at rungs r) (λ ne same.
        let a = rung_is q lq in
        let b = rung_is r lr in
        let keeps = All-contains (Meets p y) p.limits (Ladder (rung_at rungs r).product.ladder) f.1 b.limited in
        let la : (product_at p (rung_at rungs q).at).ladder ≡ (rung_at rungs r).product.ladder = ap (λ (d : Product). d.ladder) (sym a.product) ∙ same in
        let lb : (product_at p (rung_at rungs r).at).ladder ≡ (rung_at rungs r).product.ladder = ap (λ (d : Product). d.ladder) (sym b.product) in
        rw (a.product, b.product) (
          keeps (rung_at rungs q).at (rung_at rungs r).at a.inside b.inside ne oq or la lb,
          keeps (rung_at rungs r).at (rung_at rungs q).at b.inside a.inside (λ e. ne (sym e)) or oq lb la,
        ))

    taken : ℕ → Bool
    taken q = is_taken node limited at.price y (rung_at rungs q).at

    offered : (q : ℕ) → taken q ≡ true → offers y (rung_at rungs q).at ≡ true
    unfolding taken
    offered q t = and_left (offers y (rung_at rungs q).at) _ t

    usable : (q : ℕ) → q < length rungs → taken q ≡ true → is_usable node at.price rungs q ≡ true
    unfolding taken
    usable q l t =
        let rest = and_right (offers y (rung_at rungs q).at) _ t in
        let open_mark = and_left (is_open (mark_at node (rung_at rungs q).at)) _ rest in
        let dear = and_right (flag_at limited (rung_at rungs q).at) _ (and_right (is_open (mark_at node (rung_at rungs q).at)) _ rest) in
        let beside = all_yes (length rungs) (λ r. not (is_in (mark_at node (rung_at rungs r).at)) || stands (rung_at rungs r) (rung_at rungs q))
        (λ r m. by_mark (mark_at node (rung_at rungs r).at) (stands (rung_at rungs r) (rung_at rungs q)) (λ e. both_stand r q m l (given r e) (offered q t))) in
        rw (open_mark, dear, beside) refl
      where
        given : (r : ℕ) → mark_at node (rung_at rungs r).at ≡ In → offers y (rung_at rungs r).at ≡ true
        given r e = subst (λ m. Agrees m (offers y (rung_at rungs r).at)) e (Completes-agrees node y c (rung_at rungs r).at)

        by_mark : (m : Mark) (s : Bool) → (m ≡ In → s ≡ true) → (not (is_in m) || s) ≡ true
        by_mark In s h = h refl
        by_mark Out s h = refl
        by_mark Open s h = refl

    there : (i : ℕ) → (cond (is_taken node limited at.price y i) (at.price i) (pos 0) ≡ pos 0)
        ⊎ ((q : ℕ) × (q < length rungs) × ((rung_at rungs q).at ≡ i))
    there i = elim (flag_at limited i) as (λ v. flag_at limited i ≡ v
        → (cond (offers y i && (is_open (mark_at node i) && (v && is_positive (at.price i)))) (at.price i) (pos 0) ≡ pos 0)
        ⊎ ((q : ℕ) × (q < length rungs) × ((rung_at rungs q).at ≡ i))) [
          | true ↦ λ e.
              let l = are.listed i e in
              let h = l.1 in
              inr (h.0, h.1, ap (λ (r : Rung). r.at) (get_or_default rungs h.0 (record { at = 0; product = no_product }) l.0 h.1 ∙ h.2) ∙ l.2)
          | false ↦ λ e. inl (never (offers y i) (is_open (mark_at node i)) (at.price i))
        ] refl
      where
        never : (a b : Bool) (z : ℤ) → cond (a && (b && false)) z (pos 0) ≡ pos 0
        never true true z = refl
        never true false z = refl
        never false b z = refl

    -- No feasible completion is worth more than the bound.
    pub chains_hold : worth_of p at y ≤ℤ chains_bound p node at rungs limited
    unfolding taken
    chains_hold =
        let terms = sum_mono (product_count p) (λ i. cond (offers y i) (at.price i) (pos 0))
        (λ i. most_beside (mark_at node i) (flag_at limited i) (at.price i) +ℤ cond (is_taken node limited at.price y i) (at.price i) (pos 0))
        (λ i l. beside_or_taken (mark_at node i) (offers y i) (flag_at limited i) (at.price i) (Completes-agrees node y c i)) in
        let parts = int_sum_below-add (product_count p)
        (λ i. most_beside (mark_at node i) (flag_at limited i) (at.price i) +ℤ cond (is_taken node limited at.price y i) (at.price i) (pos 0))
        (λ i. most_beside (mark_at node i) (flag_at limited i) (at.price i)) (λ i. cond (is_taken node limited at.price y i) (at.price i) (pos 0)) (λ i l. refl) in
        let cover = covered (product_count p) (length rungs) (λ q. (rung_at rungs q).at) (λ i. cond (is_taken node limited at.price y i) (at.price i) (pos 0))
        (λ i. taken_low (offers y i) (is_open (mark_at node i)) (flag_at limited i) (at.price i)) (λ i l. there i) in
        let chain = chain_most (is_usable node at.price rungs) (λ q r. stands (rung_at rungs q) (rung_at rungs r)) (λ q. at.price (rung_at rungs q).at)
        taken (length rungs) (λ q. true) usable (λ q l t. refl)
        (λ q r l m tq tr. both_stand q r (omega arith) m (offered q tq) (offered r tr)) in
        omega (arith, ints)

-- ---- Steps of loops.

-- One more rung.
pub chain_more : (usable : ℕ → Bool) (stand : ℕ → ℕ → Bool) (price : ℕ → ℤ) (k : ℕ) (test : ℕ → Bool) (best end next : ℤ)
    → best ≡ best_chain usable stand price k test
    → end ≡ cond (test k) (cond (usable k) (price k +ℤ best_chain usable stand price k (λ q. stand q k)) (pos 0)) (pos 0)
    → next ≡ int_max best end → next ≡ best_chain usable stand price (k + 1) test
chain_more usable stand price k test best end next e h m = rw add-one (m ∙ two e h)
  where
    two : {a b c d : ℤ} → a ≡ b → c ≡ d → int_max a c ≡ int_max b d
    two e h = cc

-- The endings of one more rung.
pub ends_more : (ends new : List ℤ) (k : ℕ) (end : ℤ) (E : ℕ → ℤ) → k < length ends → new ≡ set ends k end
    → ((q : ℕ) → q < k → get_or ends q (pos 0) ≡ E q) → end ≡ E k → (q : ℕ) → q < k + 1 → get_or new q (pos 0) ≡ E q
ends_more ends new k end E l is before here q m = ⊎_elim
    (λ (e : k ≡ q). rw (is, ← e) (get_or-set_same ends k end (pos 0) l ∙ here))
    (λ (ne : k ≢ q). rw is (get_or-set_other ends k q end (pos 0) (λ e. ne (sym e)) ∙ before q (omega arith))) (cases_eq k q)

-- One more term.
pub sum_more : (k : ℕ) (f : ℕ → ℤ) (start sum term : ℤ) → sum ≡ start +ℤ int_sum_below k f → term ≡ f k
    → sum +ℤ term ≡ start +ℤ int_sum_below (k + 1) f
sum_more k f start sum term e h = rw add-one (omega (arith, ints, e, h))

-- ---- Ranges.

-- A usable rung's price isn't below 0.
pub usable_price : (node : List Mark) (price : ℕ → ℤ) (rungs : List Rung) (k : ℕ) → is_usable node price rungs k ≡ true → pos 0 ≤ℤ price (rung_at rungs k).at
usable_price node price rungs k t = dear (price (rung_at rungs k).at)
    (and_left (is_positive (price (rung_at rungs k).at)) _ (and_right (is_open (mark_at node (rung_at rungs k).at)) _ t))
  where
    dear : (z : ℤ) → is_positive z ≡ true → pos 0 ≤ℤ z
    dear (pos n) h = omega (arith, ints)
    dear (negsuc n) h = cc

pub within_price : (z : ℤ) → pos 0 ≤ℤ z → z ≤ℤ pos (2 ^ 111) → IsWithin (2 ^ 126) z
within_price z low high = (omega (arith, ints), omega (arith, ints))

pub within_chain : (z : ℤ) (k : ℕ) → k ≤ 256 → pos 0 ≤ℤ z → z ≤ℤ pos (k * 2 ^ 111) → IsWithin (2 ^ 126) z
within_chain z k few low high = (omega (arith, ints), omega (arith, ints))

-- No rung is dear where no price is.
pub rungs_cheap : (p : ProblemData) (list : WeightsData) (rungs : List Rung) (limited : List Bool) → IsList p list → FitRungs p rungs limited
    → HasPrices (weight_at list) rungs
rungs_cheap p list rungs limited l are = record {
  few = let few = l.few in let less = are.few in omega arith;
  small = λ k m. l.small (rung_at rungs k).at (All-get_or (λ (r : Rung). r.at < product_count p) rungs k (record { at = 0; product = no_product }) m are.inside);
}

-- Candidates that are offered or refused.
use Rattle.std.specs.Prelude.{◌==◌, ◌⊎◌, pos, negsuc, ◌≤ℤ◌, ◌<ℤ◌, Option, Some, None}
use Rattle.std.proofs.Common.{◌≡◌, ◌≢◌, ℕ, zero, suc, ◌+◌, ◌<◌, ◌≤◌, Bool, true, false, List, length, refl, sym, ap, arith, subst, inl, inr, get_or, set, length-set, get_or-set_same, get_or-set_other, ◌∙◌}
use Rattle.std.proofs.lemmas.Int.{ints}
use Rattle.std.proofs.lemmas.Bool.{cases_eq, cases_lt, cond_both}
use Rattle.std.proofs.lemmas.Bool.Decides.{nat_tests}
use Rattle.std.proofs.lemmas.List.{get_or_past}
use lib.IntN.{ℤ}
use Rattle.offer_model.specs.declared.node.Mark.{Mark}
use Rattle.offer_model.specs.declared.node.Mark.TheVariants.{In, Out, Open}
use Rattle.offer_model.specs.Assortments.{offers}
use Rattle.offer_model.specs.Problems.{ProblemData, product_count}
use Rattle.offer_model.specs.Nodes.{mark_at, is_in, fill_of, Agrees}
use Rattle.offer_model.proofs.NodeLemmas.{offers-fill_of, in_from_fill}
use Rattle.linear_step.specs.Weights.{price_bound}
use Rattle.rank_step.specs.declared.candidates.Candidate.{Candidate}
use Rattle.rank_step.specs.Caps.{PlacesData, category_place, AreCapPlaces}
use Rattle.rank_step.specs.Rooms.{RoomsData, room_at, cutoff_at, cutoff_of, AreRooms, AreTaken, HasRoom, IsFullCap, IsTaken, HasRefused}
use Rattle.rank_step.specs.Candidates.{candidate_at, IsCandidate, AreCandidates}
use Rattle.rank_step.specs.Greedy.{IsFilling, IsPast, IsFilled}
use Rattle.rank_step.proofs.RoomLemmas.{taken_more}

-- ---- At first.

agrees_in : (m : Mark) (b : Bool) → b ≡ is_in m → Agrees m b
agrees_in In b e = e
agrees_in Out b e = e
agrees_in Open b e = tt

no_cutoffs : (cutoffs : List ℕ) → ((k : ℕ) → k < length cutoffs → get_or cutoffs k 0 ≡ 0) → (k : ℕ) → get_or cutoffs k 0 ≡ 0
no_cutoffs cutoffs h k = by_place (cases_lt k (length cutoffs))
  where
    by_place : ((k < length cutoffs) ⊎ (length cutoffs ≤ k)) → get_or cutoffs k 0 ≡ 0
    by_place (inl l) = h k l
    by_place (inr l) = get_or_past cutoffs k 0 l

not_offered : (node : List Mark) (i : ℕ) → mark_at node i ≡ Open → offers (fill_of node) i ≡ true → ⊥
not_offered node i e o = let m = in_from_fill node i o in cc

-- What is In is a filling, before any candidate.
pub filling_first : (p : ProblemData) (node : List Mark) (price : ℕ → ℤ) (at : PlacesData) (x : List Bool) (rooms : RoomsData) → x ≡ fill_of node
    → length x ≡ product_count p → AreRooms p rooms → AreTaken p (fill_of node) (product_count p) rooms
    → ((k : ℕ) → k < length p.limits → cutoff_at rooms k ≡ 0) → IsFilling p node price at x rooms
filling_first p node price at x rooms e long are taken none = record {
  each = long;
  agrees = λ i l. agrees_in (mark_at node i) (offers x i) (rw e (offers-fill_of node i));
  kept = are;
  taken = rw e taken;
  small = λ k. let z = zero_at k in omega arith;
  spent = λ k some. let z = zero_at k in absurd (omega arith);
  earned = λ i l m o. absurd (not_offered node i m (rw e at o));
}
  where
    zero_at : (k : ℕ) → cutoff_at rooms k ≡ 0
    zero_at = no_cutoffs rooms.cutoffs (λ k l. none k (let h = are.cutoffs in omega arith))

-- Before the first candidate nothing was refused.
pub past_first : (p : ProblemData) (node : List Mark) (price : ℕ → ℤ) (at : PlacesData) (list : List Candidate) (x : List Bool) (rooms : RoomsData)
    → x ≡ fill_of node → AreRooms p rooms → ((k : ℕ) → k < length p.limits → cutoff_at rooms k ≡ 0)
    → IsPast p node price at list (length list) x rooms
past_first p node price at list x rooms e are none = record {
  above = λ i q l m o below. absurd (not_offered node i m (rw e at o));
  high = λ j q some below.
      let z = no_cutoffs rooms.cutoffs (λ k l. none k (let h = are.cutoffs in omega arith)) j in
      absurd (omega arith);
  refused = λ q low high o. absurd (omega arith);
}

-- ---- A candidate is offered where its caps have room.

-- A candidate that has room may be offered.
pub filling_more : (p : ProblemData) (node : List Mark) (price : ℕ → ℤ) (at : PlacesData) (x : List Bool) (rooms next : RoomsData) (c : Candidate)
    → AreCapPlaces p at → IsCandidate p node price c → offers x c.product ≡ false
    → IsFullCap rooms at c.product None → IsTaken rooms at c.product next
    → IsFilling p node price at x rooms → IsFilling p node price at (set x c.product true) next
filling_more p node price at x rooms next c places candidate o room less f = record {
  each = length-set x i true ∙ f.each;
  agrees = λ j l. agrees j l (cases_eq j i);
  kept = record { left = less.each ∙ f.kept.left; cutoffs = ap (λ (t : List ℕ). length t) less.cutoffs ∙ f.kept.cutoffs };
  taken = taken_more p at x rooms next i places f.each candidate.inside o f.kept less f.taken;
  small = λ k. rw less.cutoffs (f.small k);
  spent = λ k some. spent k (rw less.cutoffs at some);
  earned = λ j l m off. rw less.cutoffs (earned j l m off (cases_eq j i));
}
  where
    i : ℕ
    i = c.product

    within : i < length x
    within = let l = f.each in let h = candidate.inside in omega arith

    agrees : (j : ℕ) → j < product_count p → ((j ≡ i) ⊎ (j ≢ i)) → Agrees (mark_at node j) (offers (set x i true) j)
    agrees j l (inl e) = rw (e, candidate.is_open) tt
    agrees j l (inr ne) = rw (get_or-set_other x i j true false ne) (f.agrees j l)

    inside_of : (k : ℕ) → 0 < cutoff_at rooms k → k < length rooms.left
    inside_of k some = by_place (cases_lt k (length rooms.left))
      where
        by_place : ((k < length rooms.left) ⊎ (length rooms.left ≤ k)) → k < length rooms.left
        by_place (inl l) = l
        by_place (inr l) =
            let a = f.kept.left in
            let b = f.kept.cutoffs in
            let none = get_or_past rooms.cutoffs k 0 (omega arith) in
            absurd (omega arith)

    spent : (k : ℕ) → 0 < cutoff_at rooms k → room_at next k ≡ 0
    spent k some =
        let old = f.spent k some in
        let left = less.left k (inside_of k some) in
        omega arith

    -- A cap with room has no cutoff.
    free : (place : Option ℕ) → HasRoom rooms place → cutoff_of rooms place ≡ 0
    free None room = refl
    free (Some k) room = by_size (cutoff_at rooms k) refl
      where
        by_size : (u : ℕ) → cutoff_at rooms k ≡ u → cutoff_at rooms k ≡ 0
        by_size zero e = e
        by_size (suc u) e = let none = f.spent k (omega arith) in absurd (omega arith)

    here : (pos (cutoff_of rooms at.total) ≤ℤ price i) × (pos (cutoff_of rooms (category_place at i)) ≤ℤ price i)
    here =
        let a = free at.total room.0 in
        let b = free (category_place at i) room.1 in
        let is = candidate.is in
        (rw (a, is) (omega (arith, ints)), rw (b, is) (omega (arith, ints)))

    earned : (j : ℕ) → j < product_count p → mark_at node j ≡ Open → offers (set x i true) j ≡ true → ((j ≡ i) ⊎ (j ≢ i))
        → (pos (cutoff_of rooms at.total) ≤ℤ price j) × (pos (cutoff_of rooms (category_place at j)) ≤ℤ price j)
    earned j l m off (inl e) = rw e here
    earned j l m off (inr ne) = f.earned j l m (sym (get_or-set_other x i j true false ne) ∙ off)

-- One more candidate was offered.
pub past_offered : (p : ProblemData) (node : List Mark) (price : ℕ → ℤ) (at : PlacesData) (list : List Candidate) (k m : ℕ) (x : List Bool)
    (rooms next : RoomsData) → m ≡ k + 1 → AreCandidates p node price list → k < length list → length x ≡ product_count p
    → next.cutoffs ≡ rooms.cutoffs → IsPast p node price at list m x rooms
    → IsPast p node price at list k (set x (candidate_at list k).product true) next
past_offered p node price at list k m x rooms next last are inside long cutoffs past = record {
  above = λ j q l is_open o below. above j q l is_open o below (cases_eq j i);
  high = λ j q some below. rw cutoffs (past.high j q (rw cutoffs at some) (omega arith));
  refused = λ q low l o. rw cutoffs (refused q low l o (cases_eq (candidate_at list q).product i));
}
  where
    i : ℕ
    i = (candidate_at list k).product

    offered : offers (set x i true) i ≡ true
    offered = get_or-set_same x i true false (let h = (are.each k inside).inside in omega arith)

    above : (j q : ℕ) → j < product_count p → mark_at node j ≡ Open → offers (set x i true) j ≡ true → q < k → ((j ≡ i) ⊎ (j ≢ i))
        → pos (candidate_at list q).weight ≤ℤ price j
    above j q l is_open o below (inl e) =
        let is = (are.each k inside).is in
        let most = are.sorted q k (omega arith) inside in
        rw (e, is) (omega (arith, ints))
    above j q l is_open o below (inr ne) = past.above j q l is_open (sym (get_or-set_other x i j true false ne) ∙ o) (omega arith)

    refused : (q : ℕ) → k ≤ q → q < length list → offers (set x i true) (candidate_at list q).product ≡ false
        → (((candidate_at list q).product ≡ i) ⊎ ((candidate_at list q).product ≢ i))
        → ((candidate_at list q).weight ≤ cutoff_of rooms at.total) ⊎ ((candidate_at list q).weight ≤ cutoff_of rooms (category_place at (candidate_at list q).product))
    refused q low l o (inl e) = let o' = rw e at o in let t = offered in cc
    refused q low l o (inr ne) =
        let further : q ≢ k = (λ e. ne (ap (λ (t : ℕ). (candidate_at list t).product) e)) in
        past.refused q (omega arith) l (sym (get_or-set_other x i (candidate_at list q).product true false ne) ∙ o)

-- ---- A candidate is refused, and its weight is noted at a cap without room.

-- A cutoff after the cap at place k refused a product: the old one, or the weight where there was none.
abbrev IsCutoffAfter : RoomsData → RoomsData → ℕ → ℕ → ℕ → Type 0
IsCutoffAfter rooms next k weight j = ((cutoff_at next j ≡ cutoff_at rooms j) × (j ≡ k → 0 < cutoff_at rooms k))
    ⊎ ((j ≡ k) × (cutoff_at rooms k ≡ 0) × (cutoff_at next j ≡ weight))

cutoff_after : (rooms next : RoomsData) (k weight : ℕ) → k < length rooms.cutoffs → HasRefused rooms k weight next
    → (j : ℕ) → IsCutoffAfter rooms next k weight j
cutoff_after rooms next k weight l h j = by_cutoff (cutoff_at rooms k) refl
  where
    by_place : next.cutoffs ≡ set rooms.cutoffs k weight → cutoff_at rooms k ≡ 0 → ((j ≡ k) ⊎ (j ≢ k)) → IsCutoffAfter rooms next k weight j
    by_place e z (inl here) = inr (here, z, rw (e, here) (get_or-set_same rooms.cutoffs k weight 0 l))
    by_place e z (inr ne) = inl (rw e (get_or-set_other rooms.cutoffs k j weight 0 ne), λ here. absurd (ne here))

    by_cutoff : (u : ℕ) → cutoff_at rooms k ≡ u → IsCutoffAfter rooms next k weight j
    by_cutoff zero z = by_place (h.cutoffs ∙ rw z refl) z (cases_eq j k)
    by_cutoff (suc u) z =
        let other : (cutoff_at rooms k == 0) ≡ false = grind (arith, nat_tests) in
        inl (ap (λ (t : List ℕ). get_or t j 0) (h.cutoffs ∙ rw other refl), λ here. omega arith)

cutoffs_long : (rooms next : RoomsData) (k weight : ℕ) → HasRefused rooms k weight next → length next.cutoffs ≡ length rooms.cutoffs
cutoffs_long rooms next k weight h = ap (λ (t : List ℕ). length t) h.cutoffs ∙ cond_both (cutoff_at rooms k == 0) (set rooms.cutoffs k weight) rooms.cutoffs
    (λ t. length t ≡ length rooms.cutoffs) (λ e. length-set rooms.cutoffs k weight) (λ e. refl)

full_below : (p : ProblemData) (rooms : RoomsData) (full : ℕ) → AreRooms p rooms → full < length rooms.left → full < length rooms.cutoffs
full_below p rooms full are l = let a = are.left in let b = are.cutoffs in omega arith

-- A refusal keeps the filling.
pub filling_refused : (p : ProblemData) (node : List Mark) (price : ℕ → ℤ) (at : PlacesData) (list : List Candidate) (k m : ℕ) (x : List Bool)
    (rooms next : RoomsData) (full : ℕ) → m ≡ k + 1 → IsCandidate p node price (candidate_at list k)
    → IsFullCap rooms at (candidate_at list k).product (Some full) → HasRefused rooms full (candidate_at list k).weight next
    → IsPast p node price at list m x rooms → IsFilling p node price at x rooms → IsFilling p node price at x next
filling_refused p node price at list k m x rooms next full last candidate is_full h past f = record {
  each = f.each;
  agrees = f.agrees;
  kept = record { left = ap (λ (t : List ℕ). length t) h.left ∙ f.kept.left; cutoffs = cutoffs_long rooms next full weight h ∙ f.kept.cutoffs };
  taken = λ j l. rw h.left (f.taken j l);
  small = λ j. small j (after j);
  spent = λ j some. rw h.left (spent j some (after j));
  earned = λ i l m o. (low i l m o at.total (f.earned i l m o).0, low i l m o (category_place at i) (f.earned i l m o).1);
}
  where
    weight : ℕ
    weight = (candidate_at list k).weight

    after : (j : ℕ) → IsCutoffAfter rooms next full weight j
    after = cutoff_after rooms next full weight (full_below p rooms full f.kept is_full.0) h

    small : (j : ℕ) → IsCutoffAfter rooms next full weight j → cutoff_at next j ≤ price_bound
    small j (inl e) = rw e.0 (f.small j)
    small j (inr e) = rw e.2 candidate.small

    spent : (j : ℕ) → 0 < cutoff_at next j → IsCutoffAfter rooms next full weight j → room_at rooms j ≡ 0
    spent j some (inl e) = f.spent j (rw e.0 at some)
    spent j some (inr e) = rw e.0 is_full.1

    low : (i : ℕ) → i < product_count p → mark_at node i ≡ Open → offers x i ≡ true → (place : Option ℕ) → pos (cutoff_of rooms place) ≤ℤ price i
        → pos (cutoff_of next place) ≤ℤ price i
    low i l m o None before = before
    low i l m o (Some j) before = at_place (after j)
      where
        at_place : IsCutoffAfter rooms next full weight j → pos (cutoff_at next j) ≤ℤ price i
        at_place (inl e) = rw e.0 before
        at_place (inr e) = rw e.2 (past.above i k l m o (omega arith))

-- One more candidate was refused.
pub past_refused : (p : ProblemData) (node : List Mark) (price : ℕ → ℤ) (at : PlacesData) (list : List Candidate) (k m : ℕ) (x : List Bool)
    (rooms next : RoomsData) (full : ℕ) → m ≡ k + 1 → AreCandidates p node price list → k < length list → AreRooms p rooms
    → IsFullCap rooms at (candidate_at list k).product (Some full) → HasRefused rooms full (candidate_at list k).weight next
    → IsPast p node price at list m x rooms → IsPast p node price at list k x next
past_refused p node price at list k m x rooms next full last are inside rooms_each is_full h past = record {
  above = λ i q l m o below. past.above i q l m o (omega arith);
  high = λ j q some below. high j q some below (after j);
  refused = λ q low l o. refused q low l o (cases_eq q k);
}
  where
    weight : ℕ
    weight = (candidate_at list k).weight

    after : (j : ℕ) → IsCutoffAfter rooms next full weight j
    after = cutoff_after rooms next full weight (full_below p rooms full rooms_each is_full.0) h

    high : (j q : ℕ) → 0 < cutoff_at next j → q < k → IsCutoffAfter rooms next full weight j → (candidate_at list q).weight ≤ cutoff_at next j
    high j q some below (inl e) = rw e.0 (past.high j q (rw e.0 at some) (omega arith))
    high j q some below (inr e) = rw e.2 (are.sorted q k (omega arith) inside)

    -- Cutoffs don't fall.
    kept : (w : ℕ) (place : Option ℕ) → w ≤ cutoff_of rooms place → w ≤ cutoff_of next place
    kept w None l = l
    kept w (Some j) l = at_place (after j)
      where
        at_place : IsCutoffAfter rooms next full weight j → w ≤ cutoff_at next j
        at_place (inl e) = rw e.0 l
        at_place (inr e) = let none = e.1 in let l' = rw e.0 at l in omega arith

    noted : IsCutoffAfter rooms next full weight full → weight ≤ cutoff_at next full
    noted (inl e) = rw e.0 (past.high full k (e.1 refl) (omega arith))
    noted (inr e) = rw e.2 (omega arith)

    refused : (q : ℕ) → k ≤ q → q < length list → offers x (candidate_at list q).product ≡ false → ((q ≡ k) ⊎ (q ≢ k))
        → ((candidate_at list q).weight ≤ cutoff_of next at.total) ⊎ ((candidate_at list q).weight ≤ cutoff_of next (category_place at (candidate_at list q).product))
    refused q low l o (inl e) = rw e (by_cap is_full.2)
      where
        by_cap : ((at.total ≡ Some full) ⊎ (category_place at (candidate_at list k).product ≡ Some full))
            → (weight ≤ cutoff_of next at.total) ⊎ (weight ≤ cutoff_of next (category_place at (candidate_at list k).product))
        by_cap (inl c) = inl (rw c (noted (after full)))
        by_cap (inr c) = inr (rw c (noted (after full)))
    refused q low l o (inr ne) = by_cutoff (past.refused q (omega arith) l o)
      where
        by_cutoff : (((candidate_at list q).weight ≤ cutoff_of rooms at.total) ⊎ ((candidate_at list q).weight ≤ cutoff_of rooms (category_place at (candidate_at list q).product)))
            → ((candidate_at list q).weight ≤ cutoff_of next at.total) ⊎ ((candidate_at list q).weight ≤ cutoff_of next (category_place at (candidate_at list q).product))
        by_cutoff (inl c) = inl (kept (candidate_at list q).weight at.total c)
        by_cutoff (inr c) = inr (kept (candidate_at list q).weight (category_place at (candidate_at list q).product) c)

-- ---- In the end.

sign : (z : ℤ) → (z ≤ℤ pos 0) ⊎ (pos 0 <ℤ z)
sign (pos zero) = inl (omega (arith, ints))
sign (pos (suc n)) = inr (omega (arith, ints))
sign (negsuc n) = inl (omega (arith, ints))

-- All candidates have been gone through.
pub filled_last : (p : ProblemData) (node : List Mark) (price : ℕ → ℤ) (at : PlacesData) (list : List Candidate) (x : List Bool) (rooms : RoomsData)
    → AreCandidates p node price list → IsFilling p node price at x rooms → IsPast p node price at list 0 x rooms → IsFilled p node price at x rooms
filled_last p node price at list x rooms are f past = record {
  filling = f;
  refused = λ i l m o. refused i l m o (sign (price i));
}
  where
    refused : (i : ℕ) → i < product_count p → mark_at node i ≡ Open → offers x i ≡ false → ((price i ≤ℤ pos 0) ⊎ (pos 0 <ℤ price i))
        → (price i ≤ℤ pos (cutoff_of rooms at.total)) ⊎ (price i ≤ℤ pos (cutoff_of rooms (category_place at i)))
    refused i l m o (inl low) = inl (omega (arith, ints))
    refused i l m o (inr high) =
        let there = are.all i l m high in
        let weight : price i ≡ pos (candidate_at list there.0).weight
        = subst (λ t. price t ≡ pos (candidate_at list there.0).weight) there.2 (are.each there.0 there.1).is in
        by_cutoff there.0 weight there.2 (past.refused there.0 (omega arith) there.1 (rw there.2 o))
      where
        by_cutoff : (q : ℕ) → price i ≡ pos (candidate_at list q).weight → (candidate_at list q).product ≡ i
            → (((candidate_at list q).weight ≤ cutoff_of rooms at.total)
            ⊎ ((candidate_at list q).weight ≤ cutoff_of rooms (category_place at (candidate_at list q).product)))
            → (price i ≤ℤ pos (cutoff_of rooms at.total)) ⊎ (price i ≤ℤ pos (cutoff_of rooms (category_place at i)))
        by_cutoff q weight e (inl h) = inl (omega (arith, ints))
        by_cutoff q weight e (inr h) = let h' = rw e at h in inr (omega (arith, ints))

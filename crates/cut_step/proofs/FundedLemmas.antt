-- The second phase: what Open products can pay for.
use Rattle.std.proofs.Common.{◌≡◌, ℕ, true, false, List, length, refl, arith, suc, zero, ◌<◌, ◌≤◌, inl, inr, ap, sym, subst}
use Rattle.std.specs.Prelude.{pos, negsuc, ◌≤ℤ◌, ◌⊎◌, None, Option}
use Rattle.std.proofs.lemmas.Int.{ints}
use lib.IntN.{ℤ}
use Rattle.offer_model.specs.declared.node.Mark.{Mark}
use Rattle.offer_model.specs.declared.node.Mark.TheVariants.{In, Out, Open}
use Rattle.offer_model.specs.Nodes.{mark_at}
use Rattle.cut_step.specs.declared.rows.Row.{Row}
use Rattle.cut_step.specs.declared.phase.Phase.TheVariants.{Funded}
use Rattle.cut_step.specs.declared.reach.Entry.{Entry}
use Rattle.cut_step.specs.declared.reach.Spot.{Spot}
use Rattle.cut_step.specs.declared.reach.Spot.TheVariants.{Free, Kept, At}
use Rattle.cut_step.specs.Closures.{first_of, second_of, price_at}
use Rattle.cut_step.specs.Flows.{IsSettled, IsCertified}
use Rattle.cut_step.specs.Trees.{product_of, before, cap, IsTree, Pushed}
use Rattle.cut_step.specs.Searches.{spot_at, is_seen, seen, supply_of, is_below, takes, deficit_of, Ended}
use Rattle.cut_step.specs.Phases.{IsFlowing, IsKeeping, Augmented, Falls}
use Rattle.cut_step.specs.Phases.Falls.{from_open, to_out}
use Rattle.cut_step.proofs.FallLemmas.{augmented}
use Rattle.cut_step.proofs.ForcedLemmas.{true_false, free_kept, takes_out, deficit_some}
use Rattle.cut_step.proofs.StartLemmas.{supply_open, used_ends}

kept_not : (s : Spot) (p : ℕ) → s ≡ Kept → s ≡ At p → ⊥
kept_not s p a b = cc

not_below : (z : ℤ) → is_below z ≡ false → pos 0 ≤ℤ z
not_below (pos n) e = omega (arith, ints)
not_below (negsuc n) e = cc

none_given : (z : ℤ) → (0 < supply_of Funded Open z → ⊥) → z ≤ℤ pos 0
none_given (pos zero) h = omega (arith, ints)
none_given (pos (suc n)) h = absurd (h (omega arith))
none_given (negsuc n) h = omega (arith, ints)

-- Where a search ends without finding anything, what was seen is certified.
pub certified_end : (rows : List Row) (node : List Mark) (w r : List ℤ) (f : List ℕ) (spots0 spots : List Spot) (tree0 tree : List Entry)
    → IsFlowing rows node w r f → IsKeeping rows node r f spots0 → length w ≡ length spots0 → Ended rows node Funded f r spots0 tree0 spots tree None
    → IsCertified rows node w r f (seen spots)
certified_end rows node w r f spots0 spots tree0 tree g k len e = record {
  balanced = g.balanced;
  keeps = λ j l. (e.shut refl j l).on;
  tight = λ j l. (e.shut refl j l).back;
  settled = λ i l. settled i (omega arith) (mark_at node i) (spot_at spots i) refl refl;
}
  where
    settled : (i : ℕ) → i < length spots0 → (m : Mark) (s : Spot) → mark_at node i ≡ m → spot_at spots i ≡ s → IsSettled m (is_seen s) (price_at r i)
    settled i l In Free m s = absurd (free_kept (spot_at spots i) s (e.grown.kept i (k.in_kept i l m)))
    settled i l In Kept m s = refl
    settled i l In (At p) m s = refl
    settled i l Out Free m s = refl
    settled i l Out Kept m s = absurd (k.out_not i (e.grown.was_kept i s) m)
    settled i l Out (At p) m s = let t = e.searched.there i p s in
        absurd (true_false (takes Funded (mark_at node i) (price_at r i)) (takes_out Funded (mark_at node i) (price_at r i) m)
        (subst (λ (x : ℕ). takes Funded (mark_at node x) (price_at r x) ≡ false) t.1 (e.told p t.0)))
    settled i l Open Free m s = none_given (price_at r i) (λ h. true_false (seen spots i)
        (e.roots i l (subst (λ (m : Mark). 0 < supply_of Funded m (price_at r i)) (sym m) h)) (ap is_seen s))
    settled i l Open Kept m s = k.open_has i (e.grown.was_kept i s) m
    settled i l Open (At p) m s = let t = e.searched.there i p s in
        not_below (price_at r i) (subst (λ (m : Mark). takes Funded m (price_at r i) ≡ false) m
        (subst (λ (x : ℕ). takes Funded (mark_at node x) (price_at r x) ≡ false) t.1 (e.told p t.0)))

-- An augmenting path touches nothing that is kept.
pub keeping_more : (rows : List Row) (node : List Mark) (w r r' : List ℤ) (f f' : List ℕ) (spots0 spots spots' : List Spot) (tree0 tree : List Entry) (found : Option ℕ)
    → IsKeeping rows node r f spots0 → Ended rows node Funded f r spots0 tree0 spots tree found → Augmented rows node w r f tree r' f'
    → length spots' ≡ length spots → ((i : ℕ) → spot_at spots i ≡ Kept → spot_at spots' i ≡ Kept) → ((i : ℕ) → spot_at spots' i ≡ Kept → spot_at spots i ≡ Kept) → ((i p : ℕ) → spot_at spots' i ≡ At p → ⊥)
    → IsKeeping rows node r' f' spots'
keeping_more rows node w r r' f f' spots0 spots spots' tree0 tree found k e a len keep kept none = record {
  in_kept = λ i l m. keep i (e.grown.kept i (k.in_kept i (omega (arith, len, e.grown.each)) m));
  out_not = λ i h. k.out_not i (was i h);
  open_has = λ i h m. subst (λ (z : ℤ). pos 0 ≤ℤ z) (sym (a.others i (λ j l q. kept_not (spot_at spots i) j (kept i h) (subst (λ (x : ℕ). spot_at spots x ≡ At j) q (e.searched.placed j l)))))
      (k.open_has i (was i h) m);
  on = λ j l h. to (second_of rows j) (k.on j l (was (first_of rows j) h));
  back = λ j l some h.
      let same = a.unused j (λ i li b q. let ends = used_ends rows node Funded f r spots tree i e.searched li b in
      kept_not (spot_at spots (second_of rows j)) ends.1.0 (kept (second_of rows j) h) (subst (λ (x : ℕ). spot_at spots (second_of rows x) ≡ At ends.1.0) q ends.1.1)) in
      to (first_of rows j) (k.back j l (omega (arith, same, some)) (was (second_of rows j) h));
  none = none;
}
  where
    was : (i : ℕ) → spot_at spots' i ≡ Kept → spot_at spots0 i ≡ Kept
    was i h = e.grown.was_kept i (kept i h)

    to : (i : ℕ) → spot_at spots0 i ≡ Kept → spot_at spots' i ≡ Kept
    to i h = keep i (e.grown.kept i h)

deficit_taking : (m : Mark) (z : ℤ) → takes Funded m z ≡ true → (m ≡ Out) ⊎ ((m ≡ Open) × (0 < deficit_of m z))
deficit_taking In z h = cc
deficit_taking Out z h = inl refl
deficit_taking Open (pos n) h = cc
deficit_taking Open (negsuc n) h = inr (refl, omega arith)

-- The amount that a path carries is one that its ends can give and take.
pub augmented_some : (rows : List Row) (node : List Mark) (w r r' : List ℤ) (f f' : List ℕ) (tree : List Entry) (place top d : ℕ)
    → IsTree rows (length r) f tree → ((j : ℕ) → j < length tree → before tree j ≡ j → cap tree j ≡ supply_of Funded (mark_at node (product_of tree j)) (price_at r (product_of tree j)))
    → place < length tree → takes Funded (mark_at node (product_of tree place)) (price_at r (product_of tree place)) ≡ true
    → 0 < d → d ≤ cap tree place → (0 < deficit_of (mark_at node (product_of tree place)) (price_at r (product_of tree place)) → d ≤ deficit_of (mark_at node (product_of tree place)) (price_at r (product_of tree place)))
    → before tree top ≡ top → Pushed rows tree place d f r top f' r' → IsFlowing rows node w r f → Augmented rows node w r f tree r' f'
augmented_some rows node w r r' f f' tree place top d t roots l takes some narrow need root p g =
    let lt : top < length tree = omega (arith, p.above) in
    let caps = roots top lt root in
    let source = supply_open (mark_at node (product_of tree top)) (price_at r (product_of tree top)) (omega (arith, caps, some, narrow, p.caps)) in
    let enough : pos d ≤ℤ price_at r (product_of tree top) = omega (arith, ints, source.1, caps, narrow, p.caps) in
    let t' : IsTree rows (length w) f tree = subst (λ (n : ℕ). IsTree rows n f tree) g.excess_each t in
    augmented rows node w r r' f f' tree place top d t' l lt some
    (elim (deficit_taking (mark_at node (product_of tree place)) (price_at r (product_of tree place)) takes) as (λ v. Falls node r (product_of tree top) (product_of tree place) d) [
      | inl out ↦ to_out source.0 enough out
      | inr x ↦ let lack = deficit_some (mark_at node (product_of tree place)) (price_at r (product_of tree place)) _ refl x.1 in
          let less = need x.1 in
          from_open source.0 enough x.0 (omega (arith, ints, lack.1, less))
    ]) g p

-- An amount over one row alone.
use Rattle.std.proofs.Common.{◌≡◌, ℕ, false, List, length, refl, arith, ◌<◌, ◌≤◌, ◌+◌, get_or, set, inl, inr, ap, sym, subst, ◌≢◌, get_or-set_other, get_or-set_same, length-set}
use Rattle.std.specs.Prelude.{pos, ◌≤ℤ◌}
use Rattle.std.proofs.lemmas.Int.{ints}
use Rattle.std.proofs.lemmas.Bool.{cases_eq}
use lib.IntN.{ℤ}
use Rattle.offer_model.specs.declared.node.Mark.{Mark}
use Rattle.offer_model.specs.Nodes.{mark_at}
use Rattle.cut_step.specs.declared.rows.Row.{Row}
use Rattle.cut_step.specs.declared.phase.Phase.TheVariants.{Funded}
use Rattle.cut_step.specs.declared.reach.Spot.{Spot}
use Rattle.cut_step.specs.declared.reach.Spot.TheVariants.{Free, Kept, At}
use Rattle.cut_step.specs.Closures.{first_of, second_of, AreNamed, price_at}
use Rattle.cut_step.specs.Flows.{IsBalanced, Carried}
use Rattle.cut_step.specs.Searches.{spot_at, is_seen, seen, supply_of, deficit_of}
use Rattle.cut_step.specs.Phases.{IsFlowing, IsKeeping, IsUnderway, Falls}
use Rattle.cut_step.specs.Phases.Falls.{from_open}
use Rattle.cut_step.proofs.FallLemmas.{falls, flows_by, others_same}
use Rattle.cut_step.proofs.ForcedLemmas.{deficit_some}
use Rattle.cut_step.proofs.MoveLemmas.{balanced_moved}
use Rattle.cut_step.proofs.StartLemmas.{supply_open}

free_seen : (s : Spot) → is_seen s ≡ false → s ≡ Kept → ⊥
free_seen Free h q = cc
free_seen Kept h q = cc
free_seen (At p) h q = cc

-- An amount over one row alone keeps what the second phase keeps.
pub saturated_some : (rows : List Row) (node : List Mark) (w r r' : List ℤ) (f f' : List ℕ) (spots : List Spot) (k d : ℕ)
    → k < length rows → AreNamed rows (length r) → seen spots (first_of rows k) ≡ false → seen spots (second_of rows k) ≡ false
    → 0 < d → d ≤ supply_of Funded (mark_at node (first_of rows k)) (price_at r (first_of rows k)) → d ≤ deficit_of (mark_at node (second_of rows k)) (price_at r (second_of rows k))
    → f' ≡ set f k (get_or f k 0 + d) → Carried r r' (first_of rows k) (second_of rows k) d
    → IsFlowing rows node w r f → IsKeeping rows node r f spots → IsUnderway rows node w r' f' spots
saturated_some rows node w r r' f f' spots k d l names sa sb some enough need e c g kp =
    let a = supply_open (mark_at node (first_of rows k)) (price_at r (first_of rows k)) (omega (arith, some, enough)) in
    let b = deficit_some (mark_at node (second_of rows k)) (price_at r (second_of rows k)) _ refl (omega (arith, some, need)) in
    let n = names k l in
    let len = g.excess_each in
    let fall : Falls node r (first_of rows k) (second_of rows k) d = from_open a.0 (omega (arith, ints, a.1, enough)) b.0 (omega (arith, ints, b.1, need)) in
    let less = falls node (length w) r r' (first_of rows k) (second_of rows k) d (omega (arith, n.0, len)) (omega (arith, n.1, len)) some c fall in
    let inside : k < length f = omega (arith, l, g.rows_each) in
    let balanced = balanced_moved rows w r r' f k d false l g.rows_each (omega (arith, n.0, len)) (omega (arith, n.1, len)) (λ q. cc) c g.balanced in
    let off : (j : ℕ) → j ≢ k → get_or f' j 0 ≡ get_or f j 0 = λ j ne. rw e (rw get_or-set_other refl) in
    let apart_a : (i : ℕ) → spot_at spots i ≡ Kept → i ≢ first_of rows k = λ i h q. free_seen (spot_at spots (first_of rows k)) sa (subst (λ (x : ℕ). spot_at spots x ≡ Kept) q h) in
    let apart_b : (i : ℕ) → spot_at spots i ≡ Kept → i ≢ second_of rows k = λ i h q. free_seen (spot_at spots (second_of rows k)) sb (subst (λ (x : ℕ). spot_at spots x ≡ Kept) q h) in
    record {
      flowing = flows_by rows node w r r' f f' (first_of rows k) (second_of rows k) d g (subst (λ (x : List ℕ). IsBalanced rows w r' x) (sym e) balanced)
          (rw e (simp length-set refl)) c
          (λ j. elim (cases_eq j k) as (λ v. get_or f' j 0 ≤ get_or f j 0 + d)
          [ inl q ↦ rw (e, q) (rw get_or-set_same (omega arith)) | inr ne ↦ let o = off j ne in omega (arith, o) ])
          less;
      keeping = record {
        in_kept = kp.in_kept;
        out_not = kp.out_not;
        open_has = λ i h m. subst (λ (z : ℤ). pos 0 ≤ℤ z) (sym (others_same r r' (first_of rows k) (second_of rows k) d i c (apart_a i h) (apart_b i h))) (kp.open_has i h m);
        on = kp.on;
        back = λ j lj s h.
            let ne : j ≢ k = λ q. apart_b (second_of rows j) h (ap (second_of rows) q) in
            let o = off j ne in
            kp.back j lj (omega (arith, o, s)) h;
        none = kp.none;
      };
    }

-- An amount that is carried down a tree.
use Rattle.std.proofs.Common.{◌≡◌, ℕ, Bool, true, false, cond, List, length, refl, arith, ◌<◌, ◌≤◌, ◌+◌, ◌-◌, get_or, set, inl, inr, sym, subst, ◌∙◌, ◌≢◌, get_or-set_other, get_or-set_same, length-set}
use Rattle.std.proofs.lemmas.Int.{ints}
use Rattle.std.proofs.lemmas.Bool.{cases_eq}
use lib.IntN.{ℤ}
use Rattle.cut_step.specs.declared.rows.Row.{Row}
use Rattle.cut_step.specs.declared.reach.Entry.{Entry}
use Rattle.cut_step.specs.Closures.{AreNamed}
use Rattle.cut_step.specs.Flows.{IsBalanced, at, Carried, source_of, target_of}
use Rattle.cut_step.specs.Trees.{entry_at, product_of, before, over, cap, IsTree, Pushed}
use Rattle.cut_step.proofs.MoveLemmas.{balanced_moved}

-- From a product to itself nothing is carried.
pub carried_none : (r : List ℤ) (a d : ℕ) → Carried r r a a d
carried_none r a d = record { length_is = refl; is = λ i. omega (arith, ints) }

-- What is carried in two steps is carried from end to end.
pub carried_more : (r0 r r' : List ℤ) (a b c d : ℕ) → Carried r0 r b c d → Carried r r' a b d → Carried r0 r' a c d
carried_more r0 r r' a b c d h g = record { length_is = g.length_is ∙ h.length_is; is = λ i. let x = h.is i in let y = g.is i in omega (arith, ints, x, y) }

-- Nothing was carried yet.
pub pushed_start : (rows : List Row) (tree : List Entry) (start d : ℕ) (f : List ℕ) (r : List ℤ) → Pushed rows tree start d f r start f r
pushed_start rows tree start d f r = record {
  above = omega arith;
  caps = omega arith;
  rows_each = refl;
  carried = carried_none r (product_of tree start) d;
  fresh = λ j l s. refl;
  amount = λ k. omega arith;
  unused = λ k u. refl;
  balanced = λ w l b. b;
}

changed_le : (back : Bool) (f f0 d : ℕ) → f ≡ f0 → cond back (f - d) (f + d) ≤ f0 + d
changed_le true f f0 d e = omega arith
changed_le false f f0 d e = omega arith

-- One step further up the tree. No row stands twice on the way, so each amount changes once.
pub pushed_step : (rows : List Row) (n : ℕ) (tree : List Entry) (start d : ℕ) (f0 f f' : List ℕ) (r0 r r' : List ℤ) (at : ℕ)
    → IsTree rows n f0 tree → AreNamed rows n → length r0 ≡ n → length f0 ≡ length rows → start < length tree → d ≤ cap tree start → before tree at < at
    → Pushed rows tree start d f0 r0 at f r
    → f' ≡ set f (over tree at) (cond (entry_at tree at).back (get_or f (over tree at) 0 - d) (get_or f (over tree at) 0 + d))
    → Carried r r' (source_of rows (over tree at) (entry_at tree at).back) (target_of rows (over tree at) (entry_at tree at).back) d
    → Pushed rows tree start d f0 r0 (before tree at) f' r'
pushed_step rows n tree start d f0 f f' r0 r r' at t names ln lf ls ld up p e c =
    let k = over tree at in
    let inside : at < length tree = omega (arith, p.above) in
    let s = t.step at inside up in
    let same : get_or f k 0 ≡ get_or f0 k 0 = p.fresh at (omega arith) up in
    let kf : k < length f = omega (arith, s.row, p.rows_each) in
    let c' : Carried r r' (product_of tree (before tree at)) (product_of tree at) d =
    subst (λ (x : ℕ). Carried r r' x (product_of tree at) d) s.source (subst (λ (x : ℕ). Carried r r' (source_of rows k (entry_at tree at).back) x d) s.target c) in
    record {
      above = omega (arith, p.above);
      caps = omega (arith, s.narrows, p.caps);
      rows_each = rw e (simp length-set p.rows_each);
      carried = carried_more r0 r r' (product_of tree (before tree at)) (product_of tree at) (product_of tree start) d p.carried c';
      fresh = λ j l sj.
          let apart = t.apart j at (omega arith) inside sj up in
          rw e (rw get_or-set_other (p.fresh j (omega arith) sj));
      amount = λ j. elim (cases_eq j k) as (λ v. get_or f' j 0 ≤ get_or f0 j 0 + d) [
        | inl t ↦ rw (e, t) (rw get_or-set_same (changed_le (entry_at tree at).back (get_or f k 0) (get_or f0 k 0) d same))
        | inr ne ↦ rw e (rw get_or-set_other (p.amount j))
      ];
      unused = λ j u.
          let ne : j ≢ k = λ q. u at inside up (sym q) in
          rw e (rw get_or-set_other (p.unused j u));
      balanced = λ w lw b.
          let nk = names k s.row in
          subst (λ (x : List ℕ). IsBalanced rows w r' x) (sym e)
          (balanced_moved rows w r r' f k d (entry_at tree at).back s.row (p.rows_each ∙ lf) (omega (arith, nk.0)) (omega (arith, nk.1))
          (λ back. let room = s.room back in omega (arith, room, same, p.caps, ld)) c (p.balanced w lw b));
    }

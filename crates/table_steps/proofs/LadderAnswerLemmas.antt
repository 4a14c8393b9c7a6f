-- What is chosen is feasible, and is worth the bound of the potentials.
use Rattle.std.proofs.Common.{◌≡◌, ◌≢◌, ℕ, zero, suc, ◌+◌, ◌<◌, ◌≤◌, Bool, true, false, cond, List, length, refl, sym, ap, arith, subst, ◌∙◌, inl, inr, All, add-one}
use Rattle.std.specs.Prelude.{pos, negsuc, ◌⊎◌, slice_index}
use Rattle.std.proofs.lemmas.Int.{ints}
use Rattle.std.proofs.lemmas.Bool.{cases_eq}
use Rattle.std.proofs.lemmas.List.{get_or_default}
use Rattle.std.proofs.lemmas.List.Elements.{All-from_get_or}
use lib.IntN.{ℤ}
use Rattle.offer_model.specs.Roomy.{Roomy}
use Rattle.offer_model.specs.declared.node.Mark.{Mark}
use Rattle.offer_model.specs.declared.node.Mark.TheVariants.{In, Out, Open}
use Rattle.offer_model.specs.declared.products.Limit.TheVariants.{Total}
use Rattle.offer_model.specs.Assortments.{offers}
use Rattle.offer_model.specs.Problems.{ProblemData, product_count, product_at}
use Rattle.offer_model.specs.Limits.{MayStand, KeepsLadder, Meets}
use Rattle.offer_model.specs.Nodes.{mark_at, fill_of, Agrees, Clashes}
use Rattle.offer_model.specs.Prices.{Prices}
use Rattle.offer_model.specs.LeafBounds.{IsUsable, is_limited, ladder_of, most_beside, potentials_bound}
use Rattle.offer_model.proofs.CompletionLemmas.{Completes-from_marks, clash_none}
use Rattle.offer_model.proofs.PotentialLemmas.{potentials_hold}
use Rattle.offer_model.proofs.NodeLemmas.{offers-fill_of_in}
use Rattle.offer_model.proofs.SumLemmas.{int_sum_below-same}
use Rattle.offer_model.proofs.LimitLemmas.{MayStand-stable}
use Rattle.limit_rules.specs.Broken.{limit_at}
use Rattle.limit_rules.specs.Kinds.{kind_of}
use Rattle.limit_rules.specs.declared.kind.Kind.TheVariants as K
use Rattle.linear_step.specs.Answers.{IsGreatest}
use Rattle.linear_step.specs.Closings.{number_bound, Closes}
use Rattle.linear_step.specs.declared.closing.Closing.TheVariants.{Potentials}
use Rattle.linear_step.proofs.CallerLemmas.{Closes-from_bound, HasShape-at}
use Rattle.table_steps.specs.LadderRungs.{RungsData, rungs_at}
use Rattle.table_steps.specs.LadderFits.{AreLadders}
use Rattle.table_steps.specs.LadderPotentials.{ArePotentials}
use Rattle.table_steps.specs.LadderChoices.{takes, TakesBeside, IsChain, HasClimbed, IsChosen, IsSolved}
use Rattle.table_steps.proofs.SumLemmas.{tops_sum}
use Rattle.table_steps.proofs.LadderLimitLemmas.{ladder_limited, ladders_differ}
use Rattle.table_steps.proofs.LadderPotentialLemmas.{stand_from_rise, potentials_fit, usable_above_0}

-- ---- Beside the ladders.

agreed : (m : Mark) (limited : Bool) (z : ℤ) (b : Bool) → b ≡ takes m limited z → Agrees m b
agreed In limited z b e = e
agreed Out limited z b e = e
agreed Open limited z b e = tt

beside_term : (m : Mark) (limited : Bool) (z : ℤ) → cond (takes m limited z) z (pos 0) ≡ most_beside m limited z
beside_term In limited z = refl
beside_term Out limited z = refl
beside_term Open true z = refl
beside_term Open false (pos zero) = refl
beside_term Open false (pos (suc n)) = refl
beside_term Open false (negsuc n) = refl

-- Before the first ladder the products beside ladders are chosen.
pub chosen_start : (p : ProblemData) (node : List Mark) (at : Prices) (ladders : List RungsData) (us : List ℕ) (x : List Bool)
    → ArePotentials p node at.price us → TakesBeside p node at.price x → IsChosen p node at ladders us 0 x
chosen_start p node at ladders us x potentials t = record {
  each = t.each;
  agrees = λ i l. agreed (mark_at node i) (is_limited p.limits (ladder_of p i)) (at.price i) (offers x i) (t.takes i l);
  only = λ i l m h o. let e = rw (m, h) at (t.takes i l) in cc;
  later = λ i l u none.
      let usable = usable_above_0 p node at.price us i u (potentials.potentials i l) in
      rw (usable.open_mark, usable.limited) at (t.takes i l);
  chains = λ j l. absurd (omega arith);
  worth = let s = int_sum_below-same (product_count p) (λ i. cond (offers x i) (at.price i) (pos 0))
      (λ i. most_beside (mark_at node i) (is_limited p.limits (ladder_of p i)) (at.price i))
      (λ i l. ap (λ b. cond b (at.price i) (pos 0)) (t.takes i l) ∙ beside_term (mark_at node i) (is_limited p.limits (ladder_of p i)) (at.price i)) in
      omega (arith, ints);
}

-- ---- Ladder by ladder.

agrees_kept : (m : Mark) (b c : Bool) → (m ≢ Open → c ≡ b) → Agrees m b → Agrees m c
agrees_kept In b c h a = h (λ e. cc) ∙ a
agrees_kept Out b c h a = h (λ e. cc) ∙ a
agrees_kept Open b c h a = tt

-- A product that isn't Open has the number 0.
settled_0 : (p : ProblemData) (node : List Mark) (price : ℕ → ℤ) (us : List ℕ) (i : ℕ) → i < product_count p → ArePotentials p node price us
    → mark_at node i ≢ Open → slice_index us i ≡ 0
settled_0 p node price us i l are m = by_size (cases_eq (slice_index us i) 0)
  where
    by_size : ((slice_index us i ≡ 0) ⊎ (slice_index us i ≢ 0)) → slice_index us i ≡ 0
    by_size (inl e) = e
    by_size (inr ne) = absurd (m (usable_above_0 p node price us i (omega arith) (are.potentials i l)).open_mark)

-- No product of the next ladder is offered yet.
pub next_free : (p : ProblemData) (node : List Mark) (at : Prices) (ladders : List RungsData) (us : List ℕ) (k : ℕ) (x : List Bool)
    → AreLadders p ladders → k < length p.limits → IsChosen p node at ladders us k x
    → (i : ℕ) → i < product_count p → ladder_of p i ≡ (rungs_at ladders k).ladder → 0 < slice_index us i → offers x i ≡ false
next_free p node at ladders us k x are l chosen i li on u =
    chosen.later i li u (λ j lj e. ladders_differ p ladders j k are lj l (sym e ∙ on))

-- One more ladder was climbed, and the ones before it stand.
pub chosen_more : (p : ProblemData) (node : List Mark) (at : Prices) (ladders : List RungsData) (us : List ℕ) (k : ℕ) (x y : List Bool)
    → AreLadders p ladders → ArePotentials p node at.price us → k < length p.limits → IsChosen p node at ladders us k x
    → HasClimbed p at us (rungs_at ladders k).ladder x y → IsChosen p node at ladders us (k + 1) y
chosen_more p node at ladders us k x y are potentials l chosen climbed = record {
  each = climbed.each ∙ chosen.each;
  agrees = λ i li. agrees_kept (mark_at node i) (offers x i) (offers y i)
      (λ m. climbed.unused i (settled_0 p node at.price us i li potentials m)) (chosen.agrees i li);
  only = λ i li m h o. only i li m h o (cases_eq (slice_index us i) 0);
  later = λ i li u none. climbed.others i (none k (omega arith)) ∙ chosen.later i li u (λ j lj. none j (omega arith));
  chains = λ j lj. chains j lj (cases_eq j k);
  worth = let before = chosen.worth in let w = climbed.worth in rw add-one (omega (arith, ints));
}
  where
    only : (i : ℕ) → i < product_count p → mark_at node i ≡ Open → is_limited p.limits (ladder_of p i) ≡ true → offers y i ≡ true
        → ((slice_index us i ≡ 0) ⊎ (slice_index us i ≢ 0)) → 0 < slice_index us i
    only i li m h o (inl e) = chosen.only i li m h (sym (climbed.unused i e) ∙ o)
    only i li m h o (inr ne) = omega arith

    chains : (j : ℕ) → j < k + 1 → ((j ≡ k) ⊎ (j ≢ k)) → IsChain p us (rungs_at ladders j).ladder y
    chains j lj (inl e) = subst (λ t. IsChain p us (rungs_at ladders t).ladder y) (sym e) climbed.chain
    chains j lj (inr ne) = λ a b la lb n oa ob ua ub ta tb. chosen.chains j (omega arith) a b la lb n oa ob ua ub (kept a oa ta) (kept b ob tb)
      where
        kept : (i : ℕ) → ladder_of p i ≡ (rungs_at ladders j).ladder → offers y i ≡ true → offers x i ≡ true
        kept i on t = sym (climbed.others i (λ e. ladders_differ p ladders j k are (omega arith) l (sym on ∙ e))) ∙ t

-- ---- Feasible.

-- What is In keeps to each ladder, where the node doesn't clash.
fill_keeps : (p : ProblemData) (node : List Mark) (ladders : List RungsData) (k : ℕ) → AreLadders p ladders → k < length p.limits
    → (Clashes p node → ⊥) → KeepsLadder p (fill_of node) (rungs_at ladders k).ladder
fill_keeps p node ladders k are l free i j li lj d oi oj ei ej = MayStand-stable (product_at p i) (product_at p j)
    (λ off. free (k, limit_at p k, l, get_or_default p.limits k (limit_at p k) (Total 0) l, rw (are.below.named k l) (λ m. off (m i j li lj d oi oj ei ej))))

by_mark : (m : Mark) → (m ≡ In) ⊎ ((m ≡ Out) ⊎ (m ≡ Open))
by_mark In = inl refl
by_mark Out = inr (inl refl)
by_mark Open = inr (inr refl)

module _ (p : ProblemData) (node : List Mark) (at : Prices) (ladders : List RungsData) (us : List ℕ) (x : List Bool) (are : AreLadders p ladders)
    (potentials : ArePotentials p node at.price us) (free : Clashes p node → ⊥) (chosen : IsChosen p node at ladders us (length p.limits) x)
  where
    out_not : (i : ℕ) → i < product_count p → mark_at node i ≡ Out → offers x i ≡ true → ⊥
    out_not i l m o = let a = rw m at (chosen.agrees i l) in cc

    keeps : (k : ℕ) → k < length p.limits → KeepsLadder p x (rungs_at ladders k).ladder
    keeps k l i j li lj d oi oj ei ej = by_marks (by_mark (mark_at node i)) (by_mark (mark_at node j))
      where
        limited : is_limited p.limits (rungs_at ladders k).ladder ≡ true
        limited = ladder_limited p ladders k are (let e = are.below.each in omega arith)

        above_0 : (h : ℕ) → h < product_count p → mark_at node h ≡ Open → ladder_of p h ≡ (rungs_at ladders k).ladder → offers x h ≡ true → 0 < slice_index us h
        above_0 h lh m e o = chosen.only h lh m (rw e limited) o

        usable : (h : ℕ) → h < product_count p → mark_at node h ≡ Open → ladder_of p h ≡ (rungs_at ladders k).ladder → offers x h ≡ true → IsUsable p node h
        usable h lh m e o = usable_above_0 p node at.price us h (above_0 h lh m e o) (potentials.potentials h lh)

        by_marks : ((mark_at node i ≡ In) ⊎ ((mark_at node i ≡ Out) ⊎ (mark_at node i ≡ Open)))
            → ((mark_at node j ≡ In) ⊎ ((mark_at node j ≡ Out) ⊎ (mark_at node j ≡ Open))) → MayStand (product_at p i) (product_at p j)
        by_marks (inr (inl m)) n = absurd (out_not i li m oi)
        by_marks (inl m) (inr (inl n)) = absurd (out_not j lj n oj)
        by_marks (inr (inr m)) (inr (inl n)) = absurd (out_not j lj n oj)
        by_marks (inl m) (inl n) = fill_keeps p node ladders k are l free i j li lj d (offers-fill_of_in node i m) (offers-fill_of_in node j n) ei ej
        by_marks (inl m) (inr (inr n)) = ((usable j lj n ej oj).fits i li m (ei ∙ sym ej)).1
        by_marks (inr (inr m)) (inl n) = ((usable i li m ei oi).fits j lj n (ej ∙ sym ei)).0
        by_marks (inr (inr m)) (inr (inr n)) = (stand_from_rise (product_at p i) (product_at p j)
            (chosen.chains k l i j li lj d ei ej (above_0 i li m ei oi) (above_0 j lj n ej oj) oi oj)).0

    met : All (Meets p x) p.limits
    met = All-from_get_or (Meets p x) p.limits (Total 0) (λ k l. subst (Meets p x) (sym (are.below.named k l)) (keeps k l))

    pub chosen_solved : length node ≡ product_count p → IsSolved p node at us x
    unfolding met keeps out_not
    chosen_solved long = record {
      fit = potentials_fit p node at.price us potentials;
      small = All-from_get_or (λ u. u ≤ number_bound) us 0 (λ i l. let e = potentials.each in potentials.small i (omega arith));
      feasible = (chosen.each, met);
      completes = Completes-from_marks node x (let e = chosen.each in omega arith) (λ i l. chosen.agrees i (omega arith));
      worth = let w = chosen.worth in
          let tops = tops_sum p us p.limits (λ k. (rungs_at ladders k).ladder) are.below.named in
          omega (arith, ints);
    }

-- ---- Answers.

-- What all ladders come to is a greatest completion.
pub solved_greatest : (p : ProblemData) (node : List Mark) (at : Prices) (us : List ℕ) (x : List Bool) → IsSolved p node at us x → IsGreatest p at node x
solved_greatest p node at us x s = record {
  feasible = s.feasible;
  completes = s.completes;
  most = λ y f c. let le = potentials_hold p node us at y c f s.fit in let w = s.worth in omega (arith, ints);
}

-- The potentials of what is solved close the node.
pub solved_closes : (p : ProblemData) (node : List Mark) (at : Prices) (us : Roomy ℕ) (x : List Bool) → kind_of p.limits ≡ K.Ladder
    → IsSolved p node at us.items x → Closes p at node (Potentials us)
solved_closes p node at us x kind s = Closes-from_bound p at node (Potentials us) (potentials_bound p node us.items at) (λ e. cc)
    (HasShape-at (kind_of p.limits) K.Ladder (Potentials us) kind tt) s.small
    (λ c. clash_none p node x c s.feasible s.completes)
    (s.fit, refl)
    (inl (x, solved_greatest p node at us.items x s, s.worth))

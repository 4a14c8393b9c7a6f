-- Without limits what is In and what is Open with a price above 0 is best.
use Rattle.std.proofs.Common.{◌≡◌, ℕ, zero, suc, ◌<◌, ◌≤◌, Bool, true, false, List, [], ◌∷◌, length, refl, sym, ap, arith, subst, inl, ◌∙◌, All}
use Rattle.std.specs.Prelude.{pos, negsuc, ◌≤ℤ◌}
use Rattle.std.specs.List.{filter}
use Rattle.std.proofs.lemmas.Int.{ints}
use lib.IntN.{ℤ}
use Rattle.offer_model.specs.Roomy.{Roomy}
use Rattle.offer_model.specs.declared.node.Mark.{Mark}
use Rattle.offer_model.specs.declared.node.Mark.TheVariants.{In, Out, Open}
use Rattle.offer_model.specs.declared.products.Limit.{Limit}
use Rattle.offer_model.specs.Assortments.{offers}
use Rattle.offer_model.specs.Problems.{ProblemData, product_count}
use Rattle.offer_model.specs.Limits.{Meets}
use Rattle.offer_model.specs.Nodes.{mark_at, Agrees, Clashes}
use Rattle.offer_model.specs.Prices.{Prices, worth_of}
use Rattle.offer_model.specs.LeafBounds.{MultipliersFit, multipliers_bound, is_priced}
use Rattle.offer_model.proofs.CompletionLemmas.{Completes-from_marks}
use Rattle.limit_rules.specs.Kinds.{kind_of}
use Rattle.linear_step.specs.Answers.{IsGreatest}
use Rattle.linear_step.specs.Closings.{HasShape, number_bound, Closes}
use Rattle.linear_step.specs.declared.closing.Closing.TheVariants.{Multipliers}
use Rattle.linear_step.proofs.CallerLemmas.{Closes-from_bound}
use Rattle.rank_step.specs.Free.{takes, TakesAll}
use Rattle.rank_step.proofs.DualityLemmas.{tight}

agreed : (m : Mark) (z : ℤ) (b : Bool) → b ≡ takes m z → Agrees m b
agreed In z b e = e
agreed Out z b e = e
agreed Open z b e = tt

taken_high : (z : ℤ) → takes Open z ≡ true → pos 0 ≤ℤ z
taken_high (pos zero) e = cc
taken_high (pos (suc n)) e = omega (arith, ints)
taken_high (negsuc n) e = cc

left_low : (z : ℤ) → takes Open z ≡ false → z ≤ℤ pos 0
left_low (pos zero) e = omega (arith, ints)
left_low (pos (suc n)) e = cc
left_low (negsuc n) e = omega (arith, ints)

none_fit : (p : ProblemData) → p.limits ≡ [] → MultipliersFit p []
none_fit p e = record {
  each = sym (ap (λ (t : List Limit). length (filter is_priced t)) e);
  small = λ k l. absurd (omega arith);
}

all_met : (p : ProblemData) (x : List Bool) → All (Meets p x) []
all_met p x k d l = absurd (omega arith)

-- What takes all is greatest, and no multipliers give its worth as the bound.
pub free_greatest : (p : ProblemData) (node : List Mark) (at : Prices) (x : List Bool) → p.limits ≡ [] → length node ≡ product_count p → TakesAll p node at.price x
    → IsGreatest p at node x × (worth_of p at x ≡ multipliers_bound p node [] at)
free_greatest p node at x none long t = tight p node [] at x (t.long, subst (All (Meets p x)) (sym none) (all_met p x))
    (Completes-from_marks node x (let l = t.long in omega arith) (λ i l. agreed (mark_at node i) (at.price i) (offers x i) (t.takes i (omega arith))))
    (none_fit p none)
    (record {
      chosen = λ i l m o. let h = taken_high (at.price i) (rw m at (sym (t.takes i l)) ∙ o) in omega (arith, ints);
      left = λ i l m o. let h = left_low (at.price i) (rw m at (sym (t.takes i l)) ∙ o) in omega (arith, ints);
    })
    (λ k l. absurd (omega arith))

-- The assortment that takes all.
all_taken : List Mark → (ℕ → ℤ) → List Bool
all_taken [] price = []
all_taken (m ∷ node) price = takes m (price 0) ∷ all_taken node (λ i. price (suc i))

all_taken_long : (node : List Mark) (price : ℕ → ℤ) → length (all_taken node price) ≡ length node
unfolding all_taken
all_taken_long [] price = refl
all_taken_long (m ∷ node) price = let l = all_taken_long node (λ i. price (suc i)) in omega arith

all_taken_at : (node : List Mark) (price : ℕ → ℤ) (i : ℕ) → i < length node → offers (all_taken node price) i ≡ takes (mark_at node i) (price i)
unfolding all_taken
all_taken_at [] price i l = absurd (omega arith)
all_taken_at (m ∷ node) price zero l = refl
all_taken_at (m ∷ node) price (suc i) l = all_taken_at node (λ i. price (suc i)) i (omega arith)

no_clash : (p : ProblemData) (node : List Mark) → p.limits ≡ [] → Clashes p node → ⊥
no_clash p node none c = let l = c.2 in let e : length p.limits ≡ 0 = ap (λ (t : List Limit). length t) none in absurd (omega arith)

-- No multipliers close any node.
pub free_closes : (p : ProblemData) (node : List Mark) (at : Prices) (us : Roomy ℕ) → p.limits ≡ [] → length node ≡ product_count p → us.items ≡ []
    → Closes p at node (Multipliers us)
free_closes p node at us none long e = Closes-from_bound p at node (Multipliers us) (multipliers_bound p node us.items at) (λ c. cc)
    (subst (λ t. HasShape (kind_of t) (Multipliers us)) (sym none) tt)
    (subst (λ t. All (λ u. u ≤ number_bound) t) (sym e) (λ k d l. absurd (omega (arith, l))))
    (no_clash p node none)
    (subst (MultipliersFit p) (sym e) (none_fit p none), refl)
    (inl (all_taken node at.price, best.0, best.1 ∙ sym (ap (λ t. multipliers_bound p node t at) e)))
  where
    best : IsGreatest p at node (all_taken node at.price) × (worth_of p at (all_taken node at.price) ≡ multipliers_bound p node [] at)
    best = free_greatest p node at (all_taken node at.price) none long (record {
      long = let l = all_taken_long node at.price in omega arith;
      takes = λ i l. all_taken_at node at.price i (omega arith);
    })

-- Multipliers whose bound a feasible completion reaches: weak duality with complementary slackness.
use Rattle.std.proofs.Common.{◌≡◌, ℕ, ◌+◌, ◌<◌, Bool, true, false, cond, List, length, refl, sym, ap, arith, ◌∙◌}
use Rattle.std.specs.Prelude.{slice_index, pos, negsuc, ◌+ℤ◌, ◌≤ℤ◌}
use Rattle.std.proofs.lemmas.Int.{ints}
use lib.IntN.{ℤ}
use Rattle.offer_model.specs.declared.node.Mark.{Mark}
use Rattle.offer_model.specs.declared.node.Mark.TheVariants.{In, Out, Open}
use Rattle.offer_model.specs.Assortments.{offers}
use Rattle.offer_model.specs.Problems.{ProblemData, product_count}
use Rattle.offer_model.specs.Limits.{IsFeasible}
use Rattle.offer_model.specs.Nodes.{mark_at, Agrees, Completes}
use Rattle.offer_model.specs.Prices.{Prices, worth_of, most_of, greatest_worth}
use Rattle.offer_model.specs.LeafBounds.{relaxed, taken_off, added_to, allowed_in_all, taken_by, added_by, allowed_by, priced_limit_at, MultipliersFit, multipliers_bound}
use Rattle.offer_model.proofs.SumLemmas.{over, sum_moved, sum_below-same, int_sum_below-same}
use Rattle.offer_model.proofs.CompletionLemmas.{Completes-agrees}
use Rattle.offer_model.proofs.MultiplierLemmas.{exchanged, sum_split, multipliers_hold}
use Rattle.linear_step.specs.Answers.{IsGreatest}

-- Of what is Open the assortment offers what has a price above 0, and nothing with a price below 0.
pub record FollowsPrices (p : ProblemData) (node : List Mark) (price : ℕ → ℤ) (x : List Bool) : Type 0 where
  pub chosen : (i : ℕ) → i < product_count p → mark_at node i ≡ Open → offers x i ≡ true → pos 0 ≤ℤ price i
  pub left : (i : ℕ) → i < product_count p → mark_at node i ≡ Open → offers x i ≡ false → price i ≤ℤ pos 0

-- Each limit with a multiplier above 0 is used up.
abbrev pub UsesUp : ProblemData → List ℕ → List Bool → Type 0
UsesUp p us x = (k : ℕ) → k < length us
    → over (product_count p) (offers x) (taken_by p (priced_limit_at p k) (slice_index us k))
    ≡ allowed_by (priced_limit_at p k) (slice_index us k) + over (product_count p) (offers x) (added_by (priced_limit_at p k) (slice_index us k))

reached : (m : Mark) (v : Bool) (z : ℤ) → Agrees m v → (m ≡ Open → v ≡ true → pos 0 ≤ℤ z) → (m ≡ Open → v ≡ false → z ≤ℤ pos 0)
    → cond v z (pos 0) ≡ most_of m z
reached In true z a h k = refl
reached In false z a h k = cc
reached Out true z a h k = cc
reached Out false z a h k = refl
reached Open true (pos n) a h k = refl
reached Open true (negsuc n) a h k = let l = h refl refl in omega (arith, ints)
reached Open false (pos n) a h k = let l = k refl refl in omega (arith, ints)
reached Open false (negsuc n) a h k = refl

-- A completion that follows the prices reaches the node's greatest worth.
follows_greatest : (p : ProblemData) (node : List Mark) (at : Prices) (x : List Bool) → Completes node x → FollowsPrices p node at.price x
    → worth_of p at x ≡ greatest_worth p node at
follows_greatest p node at x c f =
    let e = int_sum_below-same (product_count p) (λ i. cond (offers x i) (at.price i) (pos 0)) (λ i. most_of (mark_at node i) (at.price i))
    (λ i l. reached (mark_at node i) (offers x i) (at.price i) (Completes-agrees node x c i) (λ m v. f.chosen i l m v) (λ m v. f.left i l m v)) in
    ap (λ z. at.constant +ℤ z) e

-- Multipliers don't change the worth of an assortment that uses up their limits.
used_up : (p : ProblemData) (us : List ℕ) (at : Prices) (x : List Bool) → UsesUp p us x → worth_of p (relaxed p us at) x ≡ worth_of p at x
used_up p us at x u =
    let each = sum_below-same (length us) (λ k. over (product_count p) (offers x) (taken_by p (priced_limit_at p k) (slice_index us k)))
    (λ k. allowed_by (priced_limit_at p k) (slice_index us k) + over (product_count p) (offers x) (added_by (priced_limit_at p k) (slice_index us k))) u in
    let parts = sum_split (length us) (λ k. allowed_by (priced_limit_at p k) (slice_index us k))
    (λ k. over (product_count p) (offers x) (added_by (priced_limit_at p k) (slice_index us k))) in
    let t = exchanged (length us) (product_count p) (offers x) (λ k. taken_by p (priced_limit_at p k) (slice_index us k)) in
    let a = exchanged (length us) (product_count p) (offers x) (λ k. added_by (priced_limit_at p k) (slice_index us k)) in
    let e = sum_moved (product_count p) (offers x) at.price (added_to p us) (taken_off p us) in
    let all : over (product_count p) (offers x) (taken_off p us) ≡ allowed_in_all p us + over (product_count p) (offers x) (added_to p us) = omega arith in
    omega (arith, ints)

-- A feasible completion that follows the changed prices and uses up the limits is greatest, and the bound is its worth.
pub tight : (p : ProblemData) (node : List Mark) (us : List ℕ) (at : Prices) (x : List Bool) → IsFeasible p x → Completes node x → MultipliersFit p us
    → FollowsPrices p node (relaxed p us at).price x → UsesUp p us x → IsGreatest p at node x × (worth_of p at x ≡ multipliers_bound p node us at)
tight p node us at x f c fit follows uses =
    let same : worth_of p at x ≡ multipliers_bound p node us at = sym (used_up p us at x uses) ∙ follows_greatest p node (relaxed p us at) x c follows in (
      record {
        feasible = f;
        completes = c;
        most = λ y fy cy. let le = multipliers_hold p node us at y cy fy fit in omega (arith, ints);
      },
      same,
    )

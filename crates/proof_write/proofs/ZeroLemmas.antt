-- Multipliers that are all 0.
use Rattle.std.proofs.Common.{◌≡◌, ◌≢◌, ◌∙◌, ℕ, zero, suc, ◌+◌, ◌<◌, ◌≤◌, Bool, true, false, cond, List, [], ◌∷◌, ◌++◌, length, replicate, refl, sym, ap, arith, subst}
use Rattle.std.specs.Prelude.{slice_index, slice_get, Some, ◌==◌, ◌↔◌, pos, ◌+ℤ◌, take}
use Rattle.std.specs.List.{filter}
use Rattle.std.proofs.lemmas.Int.{ints}
use Rattle.std.proofs.lemmas.List.{get_or-replicate, length-replicate, length_push, replicate_more}
use Rattle.std.proofs.lemmas.List.Elements.{All-get_or, All-replicate, recursion_from_All, filter_passes}
use Rattle.std.proofs.lemmas.List.Sums.{length-filter, count_by-le-length}
use lib.IntN.{ℤ}
use Rattle.offer_model.specs.declared.ranges.TheConstants.{MOST_LIMITS}
use Rattle.offer_model.specs.declared.node.Mark.{Mark}
use Rattle.offer_model.specs.declared.node.Mark.TheVariants.{In, Out, Open}
use Rattle.offer_model.specs.declared.products.Limit.{Limit}
use Rattle.offer_model.specs.declared.products.Limit.TheVariants.{Total, Category, Requires, Shelf, Ladder}
use Rattle.offer_model.specs.declared.products.ModelName.{ModelName}
use Rattle.offer_model.specs.declared.products.ModelName.TheVariants.{Logit, Attract, Mixed, Chain}
use Rattle.offer_model.specs.Assortments.{offers, sum_below}
use Rattle.offer_model.specs.Problems.{ProblemData, product_count}
use Rattle.offer_model.specs.Validity.{IsProblem, IsRatioModel}
use Rattle.offer_model.specs.Nodes.{mark_at, is_in, fill_of}
use Rattle.offer_model.specs.Prices.{Prices, worth_of, most_of, greatest_worth}
use Rattle.offer_model.specs.LeafBounds.{is_priced, priced_limits, priced_limit_at, taken_by, added_by, allowed_by, IsMultiplier, MultipliersFit, taken_off, added_to, allowed_in_all, relaxed, multipliers_bound}
use Rattle.linear_step.specs.Closings.{number_bound}
use Rattle.multiplier_bound.specs.Fits.{AreNumbers, AreFit, IsRelaxed}
use Rattle.linear_weights.specs.Weights.{WeightsData, prices_of}
use Rattle.offer_model.proofs.NodeLemmas.{offers-fill_of}
use Rattle.multiplier_bound.proofs.PriceLemmas.{int_sum_same, greatest_same}
use Rattle.multiplier_bound.proofs.RelaxLemmas.{kept_yes, kept_no}
use Rattle.proof_lines.specs.declared.line.Shape.TheVariants as S
use Rattle.proof_lines.specs.Lines.{IsLine}
use Rattle.proof_lines.specs.Closing.{own_prices, BoundCloses, PricesClose, ClosesUnder, Closes}
use Rattle.proof_write.specs.ZeroRules.{zeros_of}

-- ---- They are multipliers.

zero_is : (limit : Limit) → is_priced limit ≡ true → IsMultiplier limit 0
zero_is (Total cap) h = omega arith
zero_is (Category c cap) h = omega arith
zero_is (Shelf space) h = omega arith
zero_is (Requires a b) h = tt
zero_is (Ladder l) h = cc

pub zeros_each : (p : ProblemData) → length (zeros_of p) ≡ length (priced_limits p)
zeros_each p = let none : ℕ = 0 in length-replicate (length (priced_limits p)) none

zero_at : (p : ProblemData) (k : ℕ) → k < length (zeros_of p) → slice_index (zeros_of p) k ≡ 0
zero_at p k l = let each = zeros_each p in get_or-replicate (length (priced_limits p)) k 0 0 (omega arith)

pub zeros_fit : (p : ProblemData) → MultipliersFit p (zeros_of p)
zeros_fit p = record {
  each = zeros_each p;
  small = λ k l. rw (zero_at p k l) (zero_is (priced_limit_at p k)
      (All-get_or (λ l. is_priced l ≡ true) (priced_limits p) k (Ladder 0) (let each = zeros_each p in omega arith) (filter_passes is_priced p.limits)));
}

pub zeros_numbers : (p : ProblemData) → AreNumbers (zeros_of p)
zeros_numbers p = recursion_from_All (λ u. u ≤ number_bound) (zeros_of p) (All-replicate (λ u. u ≤ number_bound) (length (priced_limits p)) 0 (omega arith))

pub zeros_are_fit : (p : ProblemData) → IsProblem p → AreFit p (zeros_of p)
zeros_are_fit p valid = record { valid = valid; fit = zeros_fit p; numbers = zeros_numbers p }

pub zeros_line : (p : ProblemData) → IsLine S.Multipliers (zeros_of p)
zeros_line p = zeros_numbers p

pub zeros_few : (p : ProblemData) → IsProblem p → length (zeros_of p) ≤ MOST_LIMITS
zeros_few p valid =
    let each = zeros_each p in
    let priced = length-filter is_priced p.limits in
    let most = count_by-le-length is_priced p.limits in
    let all = valid.limits.few in
    omega arith

-- ---- Made one after another.

pub zeros_more : (limits : List Limit) (zeros next : List ℕ) (k : ℕ) (limit : Limit) → slice_get limits k ≡ Some limit → is_priced limit ≡ true
    → zeros ≡ replicate (length (filter is_priced (take k limits))) 0 → next ≡ zeros ++ 0 ∷ [] → next ≡ replicate (length (filter is_priced (take (k + 1) limits))) 0
zeros_more limits zeros next k limit got priced was is =
    let kept = filter is_priced (take k limits) in
    let more : filter is_priced (take (k + 1) limits) ≡ kept ++ limit ∷ [] = sym (kept_yes limits kept (kept ++ limit ∷ []) k limit got priced refl refl) in
    let one : length (filter is_priced (take (k + 1) limits)) ≡ length kept + 1 = ap length more ∙ length_push kept limit in
    is ∙ ap (λ t. t ++ 0 ∷ []) was ∙ replicate_more (length kept) 0 ∙ ap (λ (n : ℕ). replicate n 0) (sym one)

pub zeros_same : (limits : List Limit) (zeros : List ℕ) (k : ℕ) (limit : Limit) → slice_get limits k ≡ Some limit → is_priced limit ≡ false
    → zeros ≡ replicate (length (filter is_priced (take k limits))) 0 → zeros ≡ replicate (length (filter is_priced (take (k + 1) limits))) 0
zeros_same limits zeros k limit got priced was =
    was ∙ ap (λ (ls : List Limit). replicate (length ls) 0) (kept_no limits (filter is_priced (take k limits)) k limit got priced refl)

-- ---- They don't move prices.

no_choice : (b : Bool) → cond {A = ℕ} b 0 0 ≡ 0
no_choice true = refl
no_choice false = refl

taken_none : (p : ProblemData) (limit : Limit) (i : ℕ) → taken_by p limit 0 i ≡ 0
taken_none p (Total cap) i = omega arith
taken_none p (Category c cap) i = omega arith
taken_none p (Shelf space) i = omega arith
taken_none p (Requires a b) i = no_choice (i == a)
taken_none p (Ladder l) i = refl

added_none : (limit : Limit) (i : ℕ) → added_by limit 0 i ≡ 0
added_none (Requires a b) i = no_choice (i == b)
added_none (Total cap) i = refl
added_none (Category c cap) i = refl
added_none (Shelf space) i = refl
added_none (Ladder l) i = refl

allowed_none : (limit : Limit) → allowed_by limit 0 ≡ 0
allowed_none (Total cap) = omega arith
allowed_none (Category c cap) = omega arith
allowed_none (Shelf space) = omega arith
allowed_none (Requires a b) = refl
allowed_none (Ladder l) = refl

sum_none : (n : ℕ) (f : ℕ → ℕ) → ((k : ℕ) → k < n → f k ≡ 0) → sum_below n f ≡ 0
sum_none zero f h = refl
sum_none (suc n) f h =
    let before = sum_none n f (λ k l. h k (omega arith)) in
    let here = h n (omega arith) in
    omega arith

price_kept : (p : ProblemData) (at : Prices) (i : ℕ) → (relaxed p (zeros_of p) at).price i ≡ at.price i
price_kept p at i =
    let added : added_to p (zeros_of p) i ≡ 0 = sum_none (length (zeros_of p)) _ (λ k l. rw (zero_at p k l) (added_none (priced_limit_at p k) i)) in
    let taken : taken_off p (zeros_of p) i ≡ 0 = sum_none (length (zeros_of p)) _ (λ k l. rw (zero_at p k l) (taken_none p (priced_limit_at p k) i)) in
    omega (arith, ints)

constant_kept : (p : ProblemData) (at : Prices) → (relaxed p (zeros_of p) at).constant ≡ at.constant
constant_kept p at =
    let allowed : allowed_in_all p (zeros_of p) ≡ 0 = sum_none (length (zeros_of p)) _ (λ k l. rw (zero_at p k l) (allowed_none (priced_limit_at p k))) in
    omega (arith, ints)

-- ---- Their bound.

-- It is what completions are worth at most, with limits left aside.
pub zeros_bound : (p : ProblemData) (node : List Mark) (at : Prices) → multipliers_bound p node (zeros_of p) at ≡ greatest_worth p node at
zeros_bound p node at = greatest_same p node (relaxed p (zeros_of p) at) at (constant_kept p at) (λ i l. price_kept p at i)

settled_adds : (m : Mark) (b : Bool) (z : ℤ) → m ≢ Open → b ≡ is_in m → most_of m z ≡ cond b z (pos 0)
settled_adds In b z s e = rw e refl
settled_adds Out b z s e = rw e refl
settled_adds Open b z s e = absurd (s refl)

-- Where each product is settled, it is what the fill is worth.
pub settled_bound : (p : ProblemData) (node : List Mark) (at : Prices) → ((i : ℕ) → i < product_count p → mark_at node i ≢ Open)
    → multipliers_bound p node (zeros_of p) at ≡ worth_of p at (fill_of node)
settled_bound p node at s =
    zeros_bound p node at ∙ ap (λ (z : ℤ). at.constant +ℤ z) (int_sum_same (product_count p) (λ i. most_of (mark_at node i) (at.price i))
    (λ i. cond (offers (fill_of node) i) (at.price i) (pos 0))
    (λ i l. settled_adds (mark_at node i) (offers (fill_of node) i) (at.price i) (s i l) (offers-fill_of node i)))

-- ---- What they close.

closes_by_prices : (m : ModelName) (p : ProblemData) (x : List Bool) (node : List Mark) (us : List ℕ) → IsRatioModel m
    → ClosesUnder m p x node S.Multipliers us ↔ PricesClose p x node S.Multipliers us (own_prices p x)
closes_by_prices Logit p x node us r = (λ h. h, λ h. h)
closes_by_prices Attract p x node us r = (λ h. h, λ h. h)
closes_by_prices Mixed p x node us r = absurd r
closes_by_prices Chain p x node us r = absurd r

-- They close what their bound does.
pub zeros_close : (p : ProblemData) (x : List Bool) (node : List Mark) → IsRatioModel p.model
    → Closes p x node S.Multipliers (zeros_of p) ↔ BoundCloses x node (Some (multipliers_bound p node (zeros_of p) (own_prices p x)))
zeros_close p x node r =
    let under = closes_by_prices p.model p x node (zeros_of p) r in
    (λ h. (under.0 h).1, λ h. under.1 (zeros_fit p, h))

-- So does what a list of the prices under them gives.
pub relaxed_close : (p : ProblemData) (x : List Bool) (node : List Mark) (list : WeightsData) (z : ℤ) → IsRatioModel p.model
    → IsRelaxed p (zeros_of p) (own_prices p x) list → z ≡ greatest_worth p node (prices_of list)
    → Closes p x node S.Multipliers (zeros_of p) ↔ BoundCloses x node (Some z)
relaxed_close p x node list z r h e =
    let same = e ∙ greatest_same p node (prices_of list) (relaxed p (zeros_of p) (own_prices p x)) h.constant h.price in
    subst (λ w. Closes p x node S.Multipliers (zeros_of p) ↔ BoundCloses x node (Some w)) (sym same) (zeros_close p x node r)

-- Prices under them, where both are known by an equation.
pub relaxed_at : (p : ProblemData) (x : List Bool) (us : List ℕ) (at : Prices) (list : WeightsData) → us ≡ zeros_of p → at ≡ own_prices p x
    → IsRelaxed p us at list → IsRelaxed p (zeros_of p) (own_prices p x) list
relaxed_at p x us at list e own h = subst (λ vs. IsRelaxed p vs (own_prices p x) list) e (subst (λ t. IsRelaxed p us t list) own h)

-- The greatest values of a node's completions: there are some, they are those of the fill where all is settled, and a
-- leaf of segments with these numbers fits.
use Rattle.std.proofs.Common.{◌≡◌, ◌∙◌, ℕ, zero, suc, ◌+◌, ◌*◌, ◌/◌, ◌^◌, ◌<◌, ◌≤◌, ◌⊎◌, Bool, true, false, cond, List, [], ◌∷◌, length, refl, sym, ap, arith, inl, inr, subst}
use Rattle.std.specs.Prelude.{pos, negsuc, ◌<ℤ◌, ◌+ℤ◌, ◌-ℤ◌, slice_index, slice_index_or}
use lib.IntN.{ℤ}
use Rattle.std.proofs.lemmas.Int.{ints}
use Rattle.std.proofs.Math.Nat.{div-lt_iff_lt-mul}
use Rattle.std.proofs.lemmas.Bool.{cases_lt}
use Rattle.std.proofs.lemmas.List.Elements.{All-get_or}
use Rattle.offer_model.specs.declared.node.Mark.{Mark}
use Rattle.offer_model.specs.declared.node.Mark.TheVariants.{In, Out, Open}
use Rattle.offer_model.specs.declared.products.ModelName.TheVariants.{Mixed}
use Rattle.offer_model.specs.Assortments.{offers, sum_below}
use Rattle.offer_model.specs.Problems.{SegmentData, ProblemData, product_count, margin_of, attraction_of, shadow_of, segment_at}
use Rattle.offer_model.specs.Revenue.{gain_of, weight_of, segment_value, value_of}
use Rattle.offer_model.specs.Validity.{IsProblem, IsSegment, IsPlainModel}
use Rattle.offer_model.specs.Nodes.{mark_at, Agrees, Completes, fill_of}
use Rattle.offer_model.specs.NodeValues.{IsGreatestValue, AreGreatestValues}
use Rattle.offer_model.specs.Prices.{Prices, int_sum_below, worth_of, greatest_worth, most_of, prices_above}
use Rattle.offer_model.specs.LeafBounds.{SegmentsFit, segments_bound}
use Rattle.offer_model.proofs.SumLemmas.{sum_below-same, int_sum_below-same}
use Rattle.offer_model.proofs.EarningLemmas.{segment_value-small}

-- ---- The greatest of some numbers of the completions.

-- This completion has the greatest.
abbrev IsMost : (List Bool → ℕ) → List Mark → List Bool → Type 0
IsMost f node y = Completes node y × ((z : List Bool) → Completes node z → f z ≤ f y)

most_settled : (f : List Bool → ℕ) (m : Mark) (b : Bool) (node : List Mark) (y : List Bool) → Agrees m b → ((c : Bool) → Agrees m c → c ≡ b)
    → IsMost (λ z. f (b ∷ z)) node y → IsMost f (m ∷ node) (b ∷ y)
most_settled f m b node y own only h = ((own, h.0), at)
  where
    at : (z : List Bool) → Completes (m ∷ node) z → f z ≤ f (b ∷ y)
    at [] c = absurd c
    at (d ∷ z) c = rw (only d c.0) (h.1 z c.1)

most_open : (f : List Bool → ℕ) (node : List Mark) (y z : List Bool) → IsMost (λ x. f (true ∷ x)) node y → IsMost (λ x. f (false ∷ x)) node z
    → (x : List Bool) × IsMost f (Open ∷ node) x
most_open f node y z h k = by_order (cases_lt (f (false ∷ z)) (f (true ∷ y)))
  where
    over : (b : ℕ) → f (true ∷ y) ≤ b → f (false ∷ z) ≤ b → (x : List Bool) → Completes (Open ∷ node) x → f x ≤ b
    over b l m [] c = absurd c
    over b l m (true ∷ x) c = let le = h.1 x c.1 in omega arith
    over b l m (false ∷ x) c = let le = k.1 x c.1 in omega arith

    by_order : (f (false ∷ z) < f (true ∷ y)) ⊎ (f (true ∷ y) ≤ f (false ∷ z)) → (x : List Bool) × IsMost f (Open ∷ node) x
    by_order (inl l) = (true ∷ y, ((tt, h.0), over (f (true ∷ y)) (omega arith) (omega arith)))
    by_order (inr l) = (false ∷ z, ((tt, k.0), over (f (false ∷ z)) l (omega arith)))

-- Some completion has the greatest of any numbers.
most_exists : (f : List Bool → ℕ) (node : List Mark) → (y : List Bool) × IsMost f node y
most_exists f [] = ([], (tt, at))
  where
    at : (z : List Bool) → Completes [] z → f z ≤ f []
    at [] c = omega arith
    at (b ∷ z) c = absurd c
most_exists f (In ∷ node) =
    let rest = most_exists (λ z. f (true ∷ z)) node in
    (true ∷ rest.0, most_settled f In true node rest.0 refl (λ c a. a) rest.1)
most_exists f (Out ∷ node) =
    let rest = most_exists (λ z. f (false ∷ z)) node in
    (false ∷ rest.0, most_settled f Out false node rest.0 refl (λ c a. a) rest.1)
most_exists f (Open ∷ node) =
    let offered = most_exists (λ z. f (true ∷ z)) node in
    let left = most_exists (λ z. f (false ∷ z)) node in
    most_open f node offered.0 left.0 offered.1 left.1

no_segment : SegmentData
no_segment = record { size = 0; none = 0; attract = []; shadow = [] }

values_of : (p : ProblemData) (node : List Mark) (gs : List SegmentData)
    → (us : List ℕ) × (length us ≡ length gs) × ((k : ℕ) → k < length us → IsGreatestValue p (slice_index_or gs k no_segment) node (slice_index us k))
values_of p node [] = ([], refl, λ k l. absurd (omega arith))
values_of p node (g ∷ gs) =
    let rest = values_of p node gs in
    let most = most_exists (segment_value p g) node in
    (segment_value p g most.0 ∷ rest.0, ap suc rest.1, at most rest)
  where
    at : (most : (y : List Bool) × IsMost (segment_value p g) node y)
        (rest : (us : List ℕ) × (length us ≡ length gs) × ((k : ℕ) → k < length us → IsGreatestValue p (slice_index_or gs k no_segment) node (slice_index us k)))
        (k : ℕ) → k < suc (length rest.0) → IsGreatestValue p (slice_index_or (g ∷ gs) k no_segment) node (slice_index (segment_value p g most.0 ∷ rest.0) k)
    at most rest zero l = record { reached = (most.0, most.1.0, refl); most = most.1.1 }
    at most rest (suc k) l = rest.2 k (omega arith)

-- A node has a greatest value in each segment.
pub greatest_values : (p : ProblemData) (node : List Mark) → (us : List ℕ) × AreGreatestValues p node us
unfolding no_segment
greatest_values p node = let own = values_of p node p.segments in (own.0, record { each = own.1; greatest = own.2 })

-- ---- Where all is settled.

-- The fill is the only completion.
pub fill_only : (node : List Mark) (y : List Bool) → ((i : ℕ) → i < length node → mark_at node i ≡ Open → ⊥) → Completes node y → y ≡ fill_of node
fill_only [] [] full c = refl
fill_only (In ∷ node) (b ∷ y) full c = rw (c.0, fill_only node y (λ i l. full (suc i) (omega arith)) c.1) refl
fill_only (Out ∷ node) (b ∷ y) full c = rw (c.0, fill_only node y (λ i l. full (suc i) (omega arith)) c.1) refl
fill_only (Open ∷ node) (b ∷ y) full c = absurd (full 0 (omega arith) refl)
fill_only [] (b ∷ y) full c = absurd c
fill_only (m ∷ node) [] full c = absurd c

-- There the greatest values are those of the fill, and sum to all that it brings.
pub settled_values : (p : ProblemData) (node : List Mark) (us : List ℕ) → ((i : ℕ) → i < length node → mark_at node i ≡ Open → ⊥)
    → AreGreatestValues p node us → segments_bound us ≡ value_of p (fill_of node)
settled_values p node us full h = rw (← h.each) (sum_below-same (length us) (λ k. slice_index us k) (λ k. segment_value p (segment_at p k) (fill_of node))
    (λ k l. let own = (h.greatest k l).reached in sym own.2 ∙ ap (λ y. segment_value p (segment_at p k) y) (fill_only node own.0 full own.1)))

-- ---- A leaf with these numbers fits.

-- A product that is taken where it adds most.
chosen : Mark → ℤ → Bool
chosen In z = true
chosen Out z = false
chosen Open (pos n) = true
chosen Open (negsuc n) = false

chosen_agrees : (m : Mark) (z : ℤ) → Agrees m (chosen m z)
unfolding chosen
chosen_agrees In z = refl
chosen_agrees Out z = refl
chosen_agrees Open (pos n) = tt
chosen_agrees Open (negsuc n) = tt

chosen_most : (m : Mark) (z : ℤ) → cond (chosen m z) z (pos 0) ≡ most_of m z
unfolding chosen
chosen_most In z = refl
chosen_most Out z = refl
chosen_most Open (pos n) = refl
chosen_most Open (negsuc n) = refl

chosen_of : (ℕ → ℤ) → List Mark → List Bool
chosen_of f [] = []
chosen_of f (m ∷ node) = chosen m (f 0) ∷ chosen_of (λ i. f (suc i)) node

chosen_completes : (f : ℕ → ℤ) (node : List Mark) → Completes node (chosen_of f node)
unfolding chosen_of
chosen_completes f [] = tt
chosen_completes f (m ∷ node) = (chosen_agrees m (f 0), chosen_completes (λ i. f (suc i)) node)

offers-chosen_of : (f : ℕ → ℤ) (node : List Mark) (i : ℕ) → i < length node → offers (chosen_of f node) i ≡ chosen (mark_at node i) (f i)
unfolding chosen_of
offers-chosen_of f [] i l = absurd (omega arith)
offers-chosen_of f (m ∷ node) zero l = refl
offers-chosen_of f (m ∷ node) (suc i) l = offers-chosen_of (λ j. f (suc j)) node i (omega arith)

-- Some completion is worth the greatest worth.
pub greatest_worth-reached : (p : ProblemData) (node : List Mark) (at : Prices) → length node ≡ product_count p
    → (y : List Bool) × Completes node y × (worth_of p at y ≡ greatest_worth p node at)
greatest_worth-reached p node at each =
    let y = chosen_of at.price node in
    let same = int_sum_below-same (product_count p) (λ i. cond (offers y i) (at.price i) (pos 0)) (λ i. most_of (mark_at node i) (at.price i))
    (λ i l. rw (offers-chosen_of at.price node i (omega arith)) (chosen_most (mark_at node i) (at.price i))) in
    (y, chosen_completes at.price node, ap (λ z. at.constant +ℤ z) same)

-- Above some units a choice is worth the segment's gain less these units times its weight, where shadows are 0.
sums_level : (n : ℕ) (y : ℕ → Bool) (r v w : ℕ → ℕ) (c u : ℕ) → ((i : ℕ) → w i ≡ 0)
    → int_sum_below n (λ i. cond (y i) (pos (c * (r i * v i)) -ℤ pos (u * v i)) (pos 0)) +ℤ pos (u * sum_below n (λ i. cond (y i) (v i) (w i)))
    ≡ pos (c * sum_below n (λ i. cond (y i) (r i * v i) 0))
sums_level zero y r v w c u plain = omega (arith, ints)
sums_level (suc n) y r v w c u plain =
    let before = sums_level n y r v w c u plain in
    let nothing = plain n in
    elim (y n) as (λ b. int_sum_below n (λ i. cond (y i) (pos (c * (r i * v i)) -ℤ pos (u * v i)) (pos 0)) +ℤ cond b (pos (c * (r n * v n)) -ℤ pos (u * v n)) (pos 0)
    +ℤ pos (u * (sum_below n (λ i. cond (y i) (v i) (w i)) + cond b (v n) (w n)))
    ≡ pos (c * (sum_below n (λ i. cond (y i) (r i * v i) 0) + cond b (r n * v n) 0)))
    [ true ↦ omega (arith, ints) | false ↦ rw nothing (omega (arith, ints)) ]

-- A number whose quotient is at most u is below u plus one times the divisor.
below_next : (a u w : ℕ) → 0 < w → a / w ≤ u → a < (u + 1) * w
below_next a u zero some h = absurd (omega arith)
below_next a u (suc w) some h = (div-lt_iff_lt-mul {k = suc w} {x = a} {y = u + 1} (omega arith)).0 (omega arith)

-- A segment is worth less than 0 above its greatest value.
worth_below : (p : ProblemData) (g : SegmentData) (node : List Mark) (u : ℕ) → length node ≡ product_count p → 1 ≤ g.none → ((i : ℕ) → shadow_of g i ≡ 0)
    → IsGreatestValue p g node u → greatest_worth p node (prices_above p g u) <ℤ pos 0
worth_below p g node u each some plain h =
    let own = greatest_worth-reached p node (prices_above p g u) each in
    let y = own.0 in
    let level = sums_level (product_count p) (offers y) (margin_of p) (attraction_of g) (shadow_of g) (g.size * p.unit) (u + 1) plain in
    let lt : g.size * p.unit * gain_of p g y < (u + 1) * weight_of p g y =
    below_next (g.size * p.unit * gain_of p g y) u (weight_of p g y) (omega arith) (h.most y own.1) in
    let is = own.2 in
    omega (arith, ints)

-- A greatest value is small.
pub greatest_small : (p : ProblemData) (node : List Mark) (k u : ℕ) → IsProblem p → k < length p.segments → IsGreatestValue p (segment_at p k) node u → u ≤ 10 ^ 18
greatest_small p node k u valid inside h = let own = h.reached in rw (← own.2) (segment_value-small p k own.0 valid inside)

-- Under mixed logit the greatest values fit.
pub greatest_fit : (p : ProblemData) (node : List Mark) (us : List ℕ) → IsProblem p → p.model ≡ Mixed → length node ≡ product_count p
    → AreGreatestValues p node us → SegmentsFit p node us
greatest_fit p node us valid mixed each h = record {
  each = h.each;
  small = λ k l. greatest_small p node k (slice_index us k) valid (rw (← h.each) l) (h.greatest k l);
  below = λ k l. worth_below p (segment_at p k) node (slice_index us k) each (segment k l).none.0 (plain k l) (h.greatest k l);
}
  where
    segment : (k : ℕ) → k < length us → IsSegment (segment_at p k)
    segment k l = All-get_or IsSegment p.segments k _ (rw (← h.each) l) valid.segments

    plain : (k : ℕ) → k < length us → (i : ℕ) → shadow_of (segment_at p k) i ≡ 0
    plain k l = All-get_or (λ g. (i : ℕ) → shadow_of g i ≡ 0) p.segments k _ (rw (← h.each) l) (valid.plain (subst IsPlainModel (sym mixed) tt))

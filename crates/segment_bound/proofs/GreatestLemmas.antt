-- The greatest over a node's completions is one number, which the products above the ratio reached bring.
use Rattle.std.proofs.Common.{◌≡◌, ℕ, zero, suc, ◌+◌, ◌*◌, ◌/◌, ◌<◌, ◌≤◌, max, Bool, true, false, cond, ltb, ◌&&◌, ◌||◌, List, [], ◌∷◌, length, get_or, refl, sym, ap, ◌∙◌, subst, arith, ⊎_elim, inl, inr}
use Rattle.std.specs.Prelude.{◌⊎◌, ◌^◌, sum_by, slice_index}
use Rattle.std.proofs.lemmas.Bool.Decides.{nat_tests}
use Rattle.std.proofs.Math.Nat.{mul-le-mul_right, mul-le-mul_left, le_of_mul-le-mul_right, le-div_iff_mul-le, div-mul-le_self}
use Rattle.offer_model.specs.declared.node.Mark.{Mark}
use Rattle.offer_model.specs.declared.node.Mark.TheVariants.{Open, In, Out}
use Rattle.offer_model.specs.Assortments.{offers, sum_below}
use Rattle.offer_model.specs.Problems.{ProblemData, SegmentData, product_count, margin_of, attraction_of, shadow_of, segment_at}
use Rattle.offer_model.specs.Revenue.{gain_of, weight_of, segment_value}
use Rattle.offer_model.specs.Nodes.{mark_at, is_in, is_open, Agrees, Completes}
use Rattle.offer_model.specs.NodeValues.{IsGreatestValue, AreGreatestValues}
use Rattle.offer_model.proofs.CompletionLemmas.{Completes-agrees}
use Rattle.offer_model.specs.declared.products.ModelName.TheVariants.{Mixed}
use Rattle.offer_model.specs.Validity.{IsProblem, IsPlainModel}
use Rattle.offer_model.proofs.SumLemmas.{sum_below-same, sum_below_le}
use Rattle.offer_model.proofs.EarningLemmas.{segment_at-valid, segment_value-most, segment_value-small, share_sum-most}
use Rattle.segment_bound.specs.declared.order.Ranked.{Ranked}
use Rattle.segment_bound.specs.declared.sums.Sums.{Sums}
use Rattle.segment_bound.specs.Orders.{IsOrder}
use Rattle.segment_bound.specs.Sums.{AreSums, is_above, IsReached}
use Rattle.segment_bound.specs.Greatest.{greatest}
use Rattle.segment_bound.specs.MixedGoals.{greatest_sum}
use Rattle.segment_bound.specs.MixedLaws.{most}
use Rattle.segment_bound.proofs.OrderLemmas.{sum_order}

-- ---- One number.

max_is : (a b : ℕ) → (max a b ≡ a) ⊎ (max a b ≡ b)
max_is a b = elim (either a b) [ inl l ↦ inr (omega arith) | inr l ↦ inl (omega arith) ]
  where
    either : (x y : ℕ) → (x ≤ y) ⊎ (y ≤ x)
    either x y = grind arith

-- Some completion brings the greatest.
pub greatest_some : (f : List Bool → ℕ) (node : List Mark) → (y : List Bool) × Completes node y × (f y ≡ greatest f node)
greatest_some f [] = ([], tt, refl)
greatest_some f (In ∷ ms) = let t = greatest_some (λ z. f (true ∷ z)) ms in (true ∷ t.0, (refl, t.1), t.2)
greatest_some f (Out ∷ ms) = let t = greatest_some (λ z. f (false ∷ z)) ms in (false ∷ t.0, (refl, t.1), t.2)
greatest_some f (Open ∷ ms) =
    let a = greatest_some (λ z. f (true ∷ z)) ms in
    let b = greatest_some (λ z. f (false ∷ z)) ms in
    ⊎_elim (λ e. (true ∷ a.0, (tt, a.1), a.2 ∙ sym e)) (λ e. (false ∷ b.0, (tt, b.1), b.2 ∙ sym e)) (max_is (greatest (λ z. f (true ∷ z)) ms) (greatest (λ z. f (false ∷ z)) ms))

-- What a completion brings that none exceeds is the greatest.
pub greatest_one : (f : List Bool → ℕ) (node : List Mark) (x : List Bool) → Completes node x → ((y : List Bool) → Completes node y → f y ≤ f x) → f x ≡ greatest f node
greatest_one f node x c h =
    let t = greatest_some f node in
    let up = most f node x c in
    let down = h t.0 t.1 in
    let e = t.2 in
    omega arith

-- The greatest is the greatest value of the node in the segment.
pub greatest_value : (p : ProblemData) (g : SegmentData) (node : List Mark) → IsGreatestValue p g node (greatest (segment_value p g) node)
greatest_value p g node = record { reached = greatest_some (segment_value p g) node; most = most (segment_value p g) node }

-- And no other number is.
pub greatest_value_one : (p : ProblemData) (g : SegmentData) (node : List Mark) (u : ℕ) → IsGreatestValue p g node u → u ≡ greatest (segment_value p g) node
greatest_value_one p g node u h =
    let t = h.reached in
    let e = t.2 in
    sym e ∙ greatest_one (segment_value p g) node t.0 t.1 (λ y c. (let m = h.most y c in omega arith))

-- ---- A completion by a choice at each place.

abbrev pub chosen : Mark → Bool → Bool
chosen m up = is_in m || (is_open m && up)

abbrev pub picked : List Mark → (ℕ → Bool) → List Bool
picked [] up = []
picked (m ∷ ms) up = chosen m (up 0) ∷ picked ms (λ i. up (suc i))

pub picked_completes : (ms : List Mark) (up : ℕ → Bool) → Completes ms (picked ms up)
picked_completes [] up = tt
picked_completes (In ∷ ms) up = (refl, picked_completes ms (λ i. up (suc i)))
picked_completes (Out ∷ ms) up = (refl, picked_completes ms (λ i. up (suc i)))
picked_completes (Open ∷ ms) up = (tt, picked_completes ms (λ i. up (suc i)))

pub picked_offers : (ms : List Mark) (up : ℕ → Bool) (i : ℕ) → offers (picked ms up) i ≡ chosen (mark_at ms i) (up i)
picked_offers [] up i = refl
picked_offers (m ∷ ms) up zero = refl
picked_offers (m ∷ ms) up (suc i) = picked_offers ms (λ j. up (suc j)) i

split_term : (m : Mark) (up : Bool) (a : ℕ) → cond (is_in m) a 0 + cond (is_open m && up) a 0 ≡ cond (chosen m up) a 0
split_term In up a = omega arith
split_term Out up a = refl
split_term Open up a = omega arith

pub split_sum : (n : ℕ) (m : ℕ → Mark) (up : ℕ → Bool) (x : ℕ → Bool) (a : ℕ → ℕ) → ((i : ℕ) → x i ≡ chosen (m i) (up i))
    → sum_below n (λ i. cond (is_in (m i)) (a i) 0) + sum_below n (λ i. cond (is_open (m i) && up i) (a i) 0) ≡ sum_below n (λ i. cond (x i) (a i) 0)
split_sum zero m up x a h = refl
split_sum (suc n) m up x a h =
    let before = split_sum n m up x a h in
    let here : cond (is_in (m n)) (a n) 0 + cond (is_open (m n) && up n) (a n) 0 ≡ cond (x n) (a n) 0 = split_term (m n) (up n) (a n) ∙ ap (λ t. cond t (a n) 0) (sym (h n)) in
    omega arith

-- ---- No other choice has a greater ratio.

term : (m : Mark) (y x up : Bool) (r v G W : ℕ) → Agrees m y → x ≡ chosen m up → up ≡ ltb G (r * W)
    → cond y (r * v) 0 * W + G * cond x v 0 ≤ cond x (r * v) 0 * W + G * cond y v 0
term In true true up r v G W a e u = omega arith
term In false x up r v G W a e u = absurd cc
term In true false up r v G W a e u = absurd cc
term Out true x up r v G W a e u = absurd cc
term Out false true up r v G W a e u = absurd cc
term Out false false up r v G W a e u = omega arith
term Open true true up r v G W a e u = omega arith
term Open false false up r v G W a e u = omega arith
term Open true false up r v G W a e u =
    let l : r * W ≤ G = grind (arith, nat_tests) in
    let m = mul-le-mul_right v l in
    omega arith
term Open false true up r v G W a e u =
    let l : G ≤ r * W = grind (arith, nat_tests) in
    let m = mul-le-mul_right v l in
    omega arith

cross_sums : (n : ℕ) (y x : ℕ → Bool) (r v : ℕ → ℕ) (G W : ℕ)
    → ((i : ℕ) → cond (y i) (r i * v i) 0 * W + G * cond (x i) (v i) 0 ≤ cond (x i) (r i * v i) 0 * W + G * cond (y i) (v i) 0)
    → sum_below n (λ i. cond (y i) (r i * v i) 0) * W + G * sum_below n (λ i. cond (x i) (v i) 0)
    ≤ sum_below n (λ i. cond (x i) (r i * v i) 0) * W + G * sum_below n (λ i. cond (y i) (v i) 0)
cross_sums zero y x r v G W h = omega arith
cross_sums (suc n) y x r v G W h =
    let before = cross_sums n y x r v G W h in
    let here = h n in
    omega arith

cross_all : (gy ay gx ax none G W : ℕ) → G ≡ gx → W ≡ none + ax → gy * W + G * ax ≤ gx * W + G * ay → gy * W ≤ G * (none + ay)
cross_all gy ay gx ax none G W e f h = subst (λ t. gy * W ≤ t * (none + ay)) (sym e) (subst (λ w. gy * w ≤ gx * (none + ay)) (sym f)
    (let k : gy * (none + ax) + gx * ax ≤ gx * (none + ax) + gx * ay = subst (λ w. gy * w + gx * ax ≤ gx * w + gx * ay) f (subst (λ t. gy * W + t * ax ≤ gx * W + t * ay) e h) in omega arith))

-- A greater ratio has no smaller quotient.
quotients : (c a b n d : ℕ) → 0 < b → 0 < d → a * d ≤ n * b → c * a / b ≤ c * n / d
quotients c a b n d sb sd h =
    let m : ℕ = c * a / b in
    let q : m * b ≤ c * a = div-mul-le_self (c * a) b in
    let q' : m * b * d ≤ c * a * d = mul-le-mul_right d q in
    let h' : c * (a * d) ≤ c * (n * b) = mul-le-mul_left c h in
    let k : m * d * b ≤ c * n * b = omega arith in
    let l : m * d ≤ c * n = le_of_mul-le-mul_right k sb in
    (le-div_iff_mul-le {k = d} {x = m} {y = c * n} sd).1 l

-- ---- All together.

-- The weight without shadows.
abbrev pub plain_weight : ProblemData → SegmentData → List Bool → ℕ
plain_weight p g x = g.none + sum_below (product_count p) (λ i. cond (offers x i) (attraction_of g i) 0)

pub weight_plain : (p : ProblemData) (g : SegmentData) (x : List Bool) → ((i : ℕ) → shadow_of g i ≡ 0) → weight_of p g x ≡ plain_weight p g x
weight_plain p g x h = ap (λ t. g.none + t)
    (sum_below-same (product_count p) (λ i. cond (offers x i) (attraction_of g i) (shadow_of g i)) (λ i. cond (offers x i) (attraction_of g i) 0) (λ i l. ap (cond (offers x i) (attraction_of g i)) (h i)))

module _ (p : ProblemData) (order : List Ranked) (o : IsOrder p order) (node : List Mark) (g : SegmentData) (some : 0 < g.none) (plain : (i : ℕ) → shadow_of g i ≡ 0)
    (start reached : Sums) (a : AreSums order g node start) (r : IsReached order g node start reached) where
  abbrev over : ℕ → Bool
  over i = ltb reached.gain (margin_of p i * reached.weight)

  abbrev best : List Bool
  best = picked node over

  reached_gain : reached.gain ≡ gain_of p g best
  reached_gain =
      let e = r.gain in
      let s = a.gain in
      let b : sum_by (λ q. cond (is_in (mark_at node q.product)) (q.margin * attraction_of g q.product) 0) order ≡ sum_below (product_count p) (λ i. cond (is_in (mark_at node i)) (margin_of p i * attraction_of g i) 0)
      = sum_order p order o (λ q. cond (is_in (mark_at node q.product)) (q.margin * attraction_of g q.product) 0) in
      let c : sum_by (λ q. cond (is_above node reached q) (q.margin * attraction_of g q.product) 0) order ≡ sum_below (product_count p) (λ i. cond (is_open (mark_at node i) && over i) (margin_of p i * attraction_of g i) 0)
      = sum_order p order o (λ q. cond (is_above node reached q) (q.margin * attraction_of g q.product) 0) in
      let d = split_sum (product_count p) (mark_at node) over (offers best) (λ i. margin_of p i * attraction_of g i) (picked_offers node over) in
      omega (arith, e, s, b, c, d)

  reached_weight : reached.weight ≡ plain_weight p g best
  reached_weight =
      let e = r.weight in
      let s = a.weight in
      let b : sum_by (λ q. cond (is_in (mark_at node q.product)) (attraction_of g q.product) 0) order ≡ sum_below (product_count p) (λ i. cond (is_in (mark_at node i)) (attraction_of g i) 0)
      = sum_order p order o (λ q. cond (is_in (mark_at node q.product)) (attraction_of g q.product) 0) in
      let c : sum_by (λ q. cond (is_above node reached q) (attraction_of g q.product) 0) order ≡ sum_below (product_count p) (λ i. cond (is_open (mark_at node i) && over i) (attraction_of g i) 0)
      = sum_order p order o (λ q. cond (is_above node reached q) (attraction_of g q.product) 0) in
      let d = split_sum (product_count p) (mark_at node) over (offers best) (attraction_of g) (picked_offers node over) in
      omega (arith, e, s, b, c, d)

  cross : (y : List Bool) → Completes node y → gain_of p g y * reached.weight ≤ reached.gain * plain_weight p g y
  cross y c = cross_all (gain_of p g y) (sum_below (product_count p) (λ i. cond (offers y i) (attraction_of g i) 0)) (gain_of p g best) (sum_below (product_count p) (λ i. cond (offers best i) (attraction_of g i) 0)) g.none reached.gain reached.weight
      reached_gain reached_weight
      (cross_sums (product_count p) (offers y) (offers best) (margin_of p) (attraction_of g) reached.gain reached.weight
      (λ i. term (mark_at node i) (offers y i) (offers best i) (over i) (margin_of p i) (attraction_of g i) reached.gain reached.weight (Completes-agrees node y c i) (picked_offers node over i) refl))

  -- What is reached has a weight above 0.
  pub reached_heavy : 0 < reached.weight
  reached_heavy = let w = reached_weight in omega (arith, w)

  -- Its quotient is the greatest value.
  pub reached_greatest : g.size * p.unit * reached.gain / reached.weight ≡ greatest (segment_value p g) node
  reached_greatest =
      let same : g.size * p.unit * reached.gain / reached.weight ≡ segment_value p g best =
      ap (λ t. g.size * p.unit * t / reached.weight) reached_gain ∙ ap (λ t. g.size * p.unit * gain_of p g best / t) (reached_weight ∙ sym (weight_plain p g best plain)) in
      same ∙ greatest_one (segment_value p g) node best (picked_completes node over) (λ y c.
      subst (λ t. segment_value p g y ≤ t) same
      (subst (λ w. g.size * p.unit * gain_of p g y / w ≤ g.size * p.unit * reached.gain / reached.weight) (sym (weight_plain p g y plain))
      (quotients (g.size * p.unit) (gain_of p g y) (plain_weight p g y) reached.gain reached.weight (omega arith) reached_heavy (cross y c))))

-- ---- What the code has.

-- Under mixed logit shadows are 0.
pub shadow_none : (p : ProblemData) (k : ℕ) → IsProblem p → p.model ≡ Mixed → k < length p.segments → (i : ℕ) → shadow_of (segment_at p k) i ≡ 0
shadow_none p k valid mixed l i =
    let plain : IsPlainModel p.model = rw mixed tt in
    valid.plain plain k (record { size = 0; none = 0; attract = []; shadow = [] }) l i

-- The quotient is the greatest value of the segment.
pub quotient_greatest : (p : ProblemData) (order : List Ranked) (node : List Mark) (k : ℕ) (g : SegmentData) (start reached : Sums) (share weight : ℕ)
    → IsProblem p → p.model ≡ Mixed → k < length p.segments → IsOrder p order → g ≡ segment_at p k → AreSums order g node start → IsReached order g node start reached
    → share ≡ (segment_at p k).size * p.unit → weight ≡ reached.weight
    → (0 < weight) × (share * reached.gain / weight ≡ greatest (segment_value p (segment_at p k)) node)
quotient_greatest p order node k g start reached share weight valid mixed l o same a r es ew =
    let some = (segment_at-valid p k valid l).none.0 in
    let a' = rw same at a in
    let r' = rw same at r in
    let heavy = reached_heavy p order o node (segment_at p k) some (shadow_none p k valid mixed l) start reached a' r' in
    let value = reached_greatest p order o node (segment_at p k) some (shadow_none p k valid mixed l) start reached a' r' in
    (rw ew heavy, rw (es, ew) value)

-- The greatest value of a segment is at most 10 ^ 18.
pub greatest_small : (p : ProblemData) (k : ℕ) (node : List Mark) → IsProblem p → k < length p.segments → greatest (segment_value p (segment_at p k)) node ≤ 10 ^ 18
greatest_small p k node valid l =
    let t = greatest_some (segment_value p (segment_at p k)) node in
    let e = t.2 in
    let small = segment_value-small p k t.0 valid l in
    omega (arith, e, small)

-- So is a number that is it.
pub quotient_small : (p : ProblemData) (k q : ℕ) (node : List Mark) → IsProblem p → k < length p.segments → q ≡ greatest (segment_value p (segment_at p k)) node → q ≤ 10 ^ 18
quotient_small p k q node valid l e = let small = greatest_small p k node valid l in omega (arith, e, small)

-- One greatest number for each segment are the node's greatest values.
pub greatest_values : (p : ProblemData) (node : List Mark) (values : List ℕ) → length values ≡ length p.segments
    → ((k : ℕ) → k < length p.segments → get_or values k 0 ≡ greatest (segment_value p (segment_at p k)) node) → AreGreatestValues p node values
greatest_values p node values each h = record {
  each = each;
  greatest = λ k l. subst (IsGreatestValue p (segment_at p k) node) (sym (h k (omega arith))) (greatest_value p (segment_at p k) node);
}

-- Their sum is the goal's bound.
pub values_sum : (p : ProblemData) (node : List Mark) (values : List ℕ) → AreGreatestValues p node values → sum_below (length values) (slice_index values) ≡ greatest_sum p node
values_sum p node values v =
    let each = v.each in
    ap (λ n. sum_below n (slice_index values)) each
    ∙ sum_below-same (length p.segments) (slice_index values) (λ k. greatest (segment_value p (segment_at p k)) node) (λ k l. greatest_value_one p (segment_at p k) node (slice_index values k) (v.greatest k (omega arith)))

-- The bound is at most 10 ^ 18.
pub greatest_sum-most : (p : ProblemData) (node : List Mark) → IsProblem p → greatest_sum p node ≤ 10 ^ 18
greatest_sum-most p node valid = share_sum-most p (length p.segments) (λ k. greatest (segment_value p (segment_at p k)) node) valid (omega arith)
    (λ k l. (let t = greatest_some (segment_value p (segment_at p k)) node in let e = t.2 in let most = segment_value-most p (segment_at p k) t.0 valid in omega (arith, e, most)))

-- A part of a sum is at most the sum.
pub sum_part : (values : List ℕ) (k t : ℕ) → k < length values → t ≡ sum_below k (slice_index values) → sum_below (length values) (slice_index values) ≤ 10 ^ 18 → t + get_or values k 0 ≤ 10 ^ 18
sum_part values k t l e h =
    let part = sum_below_le (suc k) (length values) (slice_index values) (omega arith) in
    omega (arith, part, e, h)

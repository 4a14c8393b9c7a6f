-- What is summed at a node is the tangent, and is in its ranges.
use Rattle.std.proofs.Common.{◌≡◌, ℕ, ◌+◌, ◌-◌, ◌*◌, ◌/◌, ◌<◌, ◌≤◌, Bool, true, false, cond, ltb, eqb, ◌&&◌, List, [], ◌∷◌, length, get_or, refl, sym, ap, ◌∙◌, subst, arith}
use Rattle.std.specs.Prelude.{sum_by}
use Rattle.std.specs.List.{All}
use Rattle.std.proofs.lemmas.Bool.Decides.{nat_tests}
use Rattle.std.proofs.Math.Nat.{mul-le-mul_left, le-div_iff_mul-le}
use Rattle.offer_model.specs.declared.node.Mark.{Mark}
use Rattle.offer_model.specs.declared.node.Mark.TheVariants.{In, Out, Open}
use Rattle.offer_model.specs.declared.products.ModelName.TheVariants.{Mixed}
use Rattle.offer_model.specs.Assortments.{offers, sum_below}
use Rattle.offer_model.specs.Problems.{ProblemData, SegmentData, product_count, margin_of, attraction_of, shadow_of, segment_at}
use Rattle.offer_model.specs.Validity.{IsProblem}
use Rattle.offer_model.specs.Revenue.{gain_of, weight_of, segment_value}
use Rattle.offer_model.specs.Nodes.{mark_at, is_in, is_open, Completes, fill_of}
use Rattle.offer_model.proofs.NodeLemmas.{offers-fill_of}
use Rattle.offer_model.proofs.EarningLemmas.{gain_of-most, segment_at-valid, shares_below-most}
use Rattle.offer_model.proofs.SumLemmas.{sum_below-same, sum_below-zeros, sum_below-items, sum_le, point_le}
use Rattle.segment_bound.specs.declared.order.Ranked.{Ranked}
use Rattle.segment_bound.specs.declared.sums.Sums.{Sums}
use Rattle.segment_bound.specs.declared.tangent.Slope.{Slope}
use Rattle.segment_bound.specs.Orders.{IsOrder, ranked_at, listed_at}
use Rattle.segment_bound.specs.Sums.{gain_in, AreSums}
use Rattle.segment_bound.specs.Greatest.{greatest}
use Rattle.segment_bound.specs.Kept.{Fits, IsKept, sums_at, listed_segment}
use Rattle.segment_bound.specs.MixedGoals.{greatest_sum}
use Rattle.segment_bound.specs.Tangents.{parts, units_at, most_offered, room_at, added, within_cap, scale_at, share_at, raised, lowered, tangent_bound}
use Rattle.segment_bound.specs.TangentLaws.{scaled_most, capped_most, room_bounded}
use Rattle.segment_bound.specs.Tops.{IsTopOf}
use Rattle.segment_bound.specs.Slopes.{AreReached, AreSlopes, slope_at, open_attraction, parts_of, gains_of, costs_of, raise_of, open_raise, heights_of, depths_of, AreSmall, HasSmallParts, HaveSmallParts}
use Rattle.segment_bound.proofs.OrderLemmas.{length-order, sum_order, order_of}
use Rattle.segment_bound.proofs.KeptLemmas.{start_small}
use Rattle.segment_bound.proofs.GreatestLemmas.{picked, picked_completes, picked_offers, chosen, weight_plain, shadow_none, greatest_sum-most}
use Rattle.segment_bound.proofs.LinearLemmas.{term_below}
use Rattle.segment_bound.proofs.TopListLemmas.{top_same}
use Rattle.segment_bound.proofs.TangentLemmas.{weight_greatest, gains_at, costs_at, tangent_top}

-- ---- One segment.

-- What a function gives by rank it gives by product.
pub by_product : (p : ProblemData) (order : List Ranked) (f : Ranked → ℕ) → IsOrder p order → (h : ℕ → ℕ) → sum_below (length order) (λ r. h (f (listed_at order r))) ≡ sum_below (product_count p) (λ i. h (f (ranked_at p i)))
by_product p order f o h = sum_below-items (λ q. h (f q)) order (record { margin = 0; product = 0 }) ∙ sum_order p order o (λ q. h (f q))

-- The greatest of what is Open, by product.
pub open_top : (p : ProblemData) (order : List Ranked) (node : List Mark) (v : Ranked → ℕ) (w : ℕ → ℕ) (room total : ℕ) → IsOrder p order → ((i : ℕ) → v (ranked_at p i) ≡ w i)
    → IsTopOf (length order) (λ r. cond (is_open (mark_at node (listed_at order r).product)) (v (listed_at order r)) 0) room total → IsTopOf (product_count p) (λ i. cond (is_open (mark_at node i)) (w i) 0) room total
open_top p order node v w room total o same top =
    top_same (length order) (product_count p) (λ r. cond (is_open (mark_at node (listed_at order r).product)) (v (listed_at order r)) 0) (λ i. cond (is_open (mark_at node i)) (w i) 0) room total
    (λ h. by_product p order (λ q. cond (is_open (mark_at node q.product)) (v q) 0) o h
    ∙ sum_below-same (product_count p) (λ i. h (cond (is_open (mark_at node i)) (v (ranked_at p i)) 0)) (λ i. h (cond (is_open (mark_at node i)) (w i) 0)) (λ i l. ap (λ t. h (cond (is_open (mark_at node i)) t 0)) (same i)))
    top

-- The scale of a segment, from the sums of what is In and the greatest attractions of what is Open.
pub scale_is : (p : ProblemData) (order : List Ranked) (node : List Mark) (k : ℕ) (g : SegmentData) (s : Sums) (room total heaviest : ℕ) → IsProblem p → p.model ≡ Mixed → k < length p.segments → IsOrder p order
    → g ≡ segment_at p k → AreSums order g node s → room ≡ room_at p node → IsTopOf (length order) (open_attraction order g node) room total → heaviest ≡ s.weight + total → parts / heaviest ≡ scale_at p node k
scale_is p order node k g s room total heaviest valid mixed l o same sums here top e =
    let sums' : AreSums order (segment_at p k) node s = rw same at sums in
    let top' : IsTopOf (length order) (open_attraction order (segment_at p k) node) (room_at p node) total = rw (same, here) at top in
    let by_place = open_top p order node (λ q. attraction_of (segment_at p k) q.product) (λ i. attraction_of (segment_at p k) i - 0) (room_at p node) total o (λ i. omega arith) top' in
    ap (λ t. parts / t) (e ∙ weight_greatest p order (segment_at p k) node s total o (shadow_none p k valid mixed l) sums' by_place)

-- ---- What a segment gains and weighs.

gain_fill : (p : ProblemData) (order : List Ranked) (g : SegmentData) (node : List Mark) (s : Sums) → IsOrder p order → AreSums order g node s → s.gain ≡ gain_of p g (fill_of node)
gain_fill p order g node s o sums =
    let a : gain_in order g node ≡ sum_below (product_count p) (λ i. cond (is_in (mark_at node i)) (margin_of p i * attraction_of g i) 0)
    = sum_order p order o (λ q. cond (is_in (mark_at node q.product)) (q.margin * attraction_of g q.product) 0) in
    sums.gain ∙ (a ∙ sum_below-same (product_count p) (λ i. cond (is_in (mark_at node i)) (margin_of p i * attraction_of g i) 0) (λ i. cond (offers (fill_of node) i) (margin_of p i * attraction_of g i) 0)
    (λ i l. ap (λ b. cond b (margin_of p i * attraction_of g i) 0) (sym (offers-fill_of node i))))

weight_fill : (p : ProblemData) (order : List Ranked) (g : SegmentData) (node : List Mark) (s : Sums) → IsOrder p order → ((i : ℕ) → shadow_of g i ≡ 0) → AreSums order g node s → s.weight ≡ weight_of p g (fill_of node)
weight_fill p order g node s o plain sums =
    let a : sum_by (λ q. cond (is_in (mark_at node q.product)) (attraction_of g q.product) 0) order ≡ sum_below (product_count p) (λ i. cond (is_in (mark_at node i)) (attraction_of g i) 0)
    = sum_order p order o (λ q. cond (is_in (mark_at node q.product)) (attraction_of g q.product) 0) in
    let b = sum_below-same (product_count p) (λ i. cond (is_in (mark_at node i)) (attraction_of g i) 0) (λ i. cond (offers (fill_of node) i) (attraction_of g i) 0)
    (λ i l. ap (λ t. cond t (attraction_of g i) 0) (sym (offers-fill_of node i))) in
    sums.weight ∙ (ap (λ t. g.none + t) (a ∙ b) ∙ sym (weight_plain p g (fill_of node) plain))

-- ---- Completions that have room.

pub fill_completes : (node : List Mark) → Completes node (fill_of node)
fill_completes [] = tt
fill_completes (In ∷ node) = (refl, fill_completes node)
fill_completes (Out ∷ node) = (refl, fill_completes node)
fill_completes (Open ∷ node) = (tt, fill_completes node)

-- Nothing Open is offered by what is In alone.
pub fill_room_false : (p : ProblemData) (node : List Mark) → ltb (room_at p node) (added p node (fill_of node)) ≡ false
fill_room_false p node =
    let none : added p node (fill_of node) ≡ 0 = sum_below-zeros (product_count p) (λ i. cond (is_open (mark_at node i) && offers (fill_of node) i) 1 0)
    (λ i l. ap (λ b. cond (is_open (mark_at node i) && b) 1 0) (offers-fill_of node i) ∙ neither (mark_at node i)) in
    below (room_at p node) (added p node (fill_of node)) (omega (arith, none))
  where
    neither : (m : Mark) → ◌≡◌ {A = ℕ} (cond (is_open m && is_in m) 1 0) 0
    neither In = refl
    neither Out = refl
    neither Open = refl

    below : (r a : ℕ) → a ≤ r → ltb r a ≡ false
    below r a l = grind (arith, nat_tests)

one_here : (m : Mark) (b : Bool) → cond (is_open m && chosen m b) 1 0 ≤ cond true (cond b 1 0) 0
one_here In b = omega arith
one_here Out b = omega arith
one_here Open b = omega arith

-- One Open product has room where there is any.
pub one_room_false : (p : ProblemData) (node : List Mark) (a : ℕ) → 0 < room_at p node → ltb (room_at p node) (added p node (picked node (λ i. eqb i a))) ≡ false
one_room_false p node a some =
    let le = sum_le (product_count p) (λ i. cond (is_open (mark_at node i) && offers (picked node (λ j. eqb j a)) i) 1 0) (λ i. cond true (cond (eqb i a) 1 0) 0)
    (λ i l. subst (λ b. cond (is_open (mark_at node i) && b) 1 0 ≤ cond true (cond (eqb i a) 1 0) 0) (sym (picked_offers node (λ j. eqb j a) i)) (one_here (mark_at node i) (eqb i a))) in
    let one = point_le (product_count p) (λ i. true) 1 a in
    below (room_at p node) (added p node (picked node (λ i. eqb i a))) (omega (arith, le, one, some))
  where
    below : (r b : ℕ) → b ≤ r → ltb r b ≡ false
    below r b l = grind (arith, nat_tests)

-- A completion that offers a product weighs no less than its attraction.
pub weight_with : (p : ProblemData) (g : SegmentData) (node : List Mark) (a : ℕ) → a < product_count p → is_open (mark_at node a) ≡ true → attraction_of g a ≤ weight_of p g (picked node (λ i. eqb i a))
weight_with p g node a l up =
    let term = term_below (product_count p) a (λ i. cond (offers (picked node (λ j. eqb j a)) i) (attraction_of g i) (shadow_of g i)) l in
    let own : eqb a a ≡ true = grind (arith, nat_tests) in
    let offered : offers (picked node (λ j. eqb j a)) a ≡ true = picked_offers node (λ j. eqb j a) a ∙ taken (mark_at node a) (eqb a a) up own in
    let here : cond (offers (picked node (λ j. eqb j a)) a) (attraction_of g a) (shadow_of g a) ≡ attraction_of g a = ap (λ b. cond b (attraction_of g a) (shadow_of g a)) offered in
    omega (arith, term, here)
  where
    taken : (m : Mark) (b : Bool) → is_open m ≡ true → b ≡ true → chosen m b ≡ true
    taken In b e f = absurd cc
    taken Out b e f = absurd cc
    taken Open b e f = f

-- ---- Where what is In alone brings each segment's greatest value.

-- No tangent is lower then than the sum of the greatest values.
pub reached_below : (p : ProblemData) (order : List Ranked) (segments : List SegmentData) (node : List Mark) (sums : List Sums) → Fits p (record { order = order; segments = segments }) → IsKept order segments node sums
    → AreReached p node sums → greatest_sum p node ≤ tangent_bound p node
reached_below p order segments node sums fits kept reached =
    let value = sum_le (length p.segments) (units_at p node) (λ k. segment_value p (segment_at p k) (fill_of node)) here in
    let bound = room_bounded p node (fill_of node) (fill_completes node) (fill_room_false p node) in
    omega (arith, value, bound)
  where
    brings : (u w g c : ℕ) → 0 < w → u * w ≤ c * g → u ≤ c * g / w
    brings u w g c some l = (le-div_iff_mul-le {k = w} {x = u} {y = c * g} some).1 l

    here : (k : ℕ) → k < length p.segments → units_at p node k ≤ segment_value p (segment_at p k) (fill_of node)
    here k l =
        let count = ap (λ (gs : List SegmentData). length gs) fits.segments in
        let same : listed_segment segments k ≡ segment_at p k = ap (λ (gs : List SegmentData). listed_segment gs k) fits.segments in
        let own = subst (λ (g : SegmentData). AreSums order g node (sums_at sums k)) same (kept.each_sum k (omega (arith, count, l))) in
        let plain = shadow_none p k fits.valid fits.mixed l in
        let g = gain_fill p order (segment_at p k) node (sums_at sums k) fits.order own in
        let w = weight_fill p order (segment_at p k) node (sums_at sums k) fits.order plain own in
        let none = (segment_at-valid p k fits.valid l).none.0 in
        let heavy = weight_plain p (segment_at p k) (fill_of node) plain in
        let some : 0 < weight_of p (segment_at p k) (fill_of node) = omega (arith, none, heavy) in
        let most = reached k l in
        brings (units_at p node k) (weight_of p (segment_at p k) (fill_of node)) (gain_of p (segment_at p k) (fill_of node)) (share_at p k) some
        (fits_both (units_at p node k) (share_at p k) (sums_at sums k).weight (weight_of p (segment_at p k) (fill_of node)) (sums_at sums k).gain (gain_of p (segment_at p k) (fill_of node)) w g most)
      where
        fits_both : (u c w w' g g' : ℕ) → w ≡ w' → g ≡ g' → u * w ≤ c * g → u * w' ≤ c * g'
        fits_both u c w w' g g' a b l = subst (λ t. u * t ≤ c * g') a (subst (λ t. u * w ≤ c * t) b l)

-- ---- The room.

-- What the cap leaves room for.
pub room_is : (r cap : ℕ) (p : ProblemData) (node : List Mark) (order : List Ranked) → IsOrder p order → length node ≡ length order → cap ≡ most_offered p
    → r ≡ cap - sum_below (length node) (λ i. cond (is_in (mark_at node i)) 1 0) → r ≡ room_at p node
room_is r cap p node order o long e h =
    let n : length node ≡ product_count p = long ∙ length-order p order o in
    h ∙ (ap (λ t. t - sum_below (length node) (λ i. cond (is_in (mark_at node i)) 1 0)) e ∙ ap (λ t. most_offered p - sum_below t (λ i. cond (is_in (mark_at node i)) 1 0)) n)

-- ---- All segments.

module _ (p : ProblemData) (order : List Ranked) (segments : List SegmentData) (node : List Mark) (sums : List Sums) (slopes : List Slope)
    (fits : Fits p (record { order = order; segments = segments })) (kept : IsKept order segments node sums) (are : AreSlopes p node slopes) where
  same_segment : (k : ℕ) → listed_segment segments k ≡ segment_at p k
  same_segment k = ap (λ (gs : List SegmentData). listed_segment gs k) fits.segments

  plain : (k i : ℕ) → k < length p.segments → shadow_of (segment_at p k) i ≡ 0
  plain k i l = shadow_none p k fits.valid fits.mixed l i

  sums_are : (k : ℕ) → k < length p.segments → AreSums order (segment_at p k) node (sums_at sums k)
  sums_are k l =
      let count = ap (λ (gs : List SegmentData). length gs) fits.segments in
      subst (λ (g : SegmentData). AreSums order g node (sums_at sums k)) (same_segment k) (kept.each_sum k (omega (arith, count, l)))

  inside : (k : ℕ) → k < length slopes → k < length p.segments
  inside k l = let each = are.each in omega (arith, each, l)

  -- The slopes are in their ranges.
  pub slopes_small : AreSmall slopes
  slopes_small =
      let units : sum_below (length slopes) (λ k. (slope_at slopes k).units) ≡ sum_below (length p.segments) (units_at p node)
      = ap (λ n. sum_below n (λ k. (slope_at slopes k).units)) are.each ∙ sum_below-same (length p.segments) (λ k. (slope_at slopes k).units) (units_at p node) (λ k l. (are.slope k l).units) in
      let shares : sum_below (length slopes) (λ k. (slope_at slopes k).share) ≡ sum_below (length p.segments) (share_at p)
      = ap (λ n. sum_below n (λ k. (slope_at slopes k).share)) are.each ∙ sum_below-same (length p.segments) (λ k. (slope_at slopes k).share) (share_at p) (λ k l. (are.slope k l).share) in
      let most = greatest_sum-most p node fits.valid in
      let share_most = shares_below-most p (length p.segments) fits.valid (omega arith) in
      record { units = omega (arith, units, most); shares = omega (arith, shares, share_most) }

  scaled : (k : ℕ) (y : List Bool) → k < length slopes → Completes node y → ltb (room_at p node) (added p node y) ≡ false → (slope_at slopes k).scale * weight_of p (segment_at p k) y ≤ parts
  scaled k y l c room =
      subst (λ t. t * weight_of p (segment_at p k) y ≤ parts) (sym (are.slope k (inside k l)).scale)
      (scaled_most parts (greatest (within_cap p node (weight_of p (segment_at p k))) node) (weight_of p (segment_at p k) y) (capped_most p node (weight_of p (segment_at p k)) y c room))

  -- What is In stands for at most a unit in each segment.
  pub sums_small : HaveSmallParts sums slopes
  sums_small = record {
    scaled = λ k l. in_scaled k l;
    gains = λ k l. gain_below k (inside k l);
    small = λ k l. (start_small p order (segment_at p k) node (sums_at sums k) fits.valid fits.order (segment_at-valid p k fits.valid (inside k l)) (sums_are k (inside k l))).0;
  }
    where
      in_scaled : (k : ℕ) → k < length slopes → (slope_at slopes k).scale * (sums_at sums k).weight ≤ parts
      in_scaled k l =
          let w = weight_fill p order (segment_at p k) node (sums_at sums k) fits.order (λ i. plain k i (inside k l)) (sums_are k (inside k l)) in
          subst (λ t. (slope_at slopes k).scale * t ≤ parts) (sym w) (scaled k (fill_of node) l (fill_completes node) (fill_room_false p node))

      gain_below : (k : ℕ) → k < length p.segments → (sums_at sums k).gain ≤ 1000000000 * (sums_at sums k).weight
      gain_below k l =
          let most = gain_of-most p (segment_at p k) (fill_of node) fits.valid in
          let g = gain_fill p order (segment_at p k) node (sums_at sums k) fits.order (sums_are k l) in
          let w = weight_fill p order (segment_at p k) node (sums_at sums k) fits.order (λ i. plain k i l) (sums_are k l) in
          omega (arith, most, g, w)

  -- So does each product that is Open, where there is room.
  pub products_small : 0 < room_at p node → All (λ q. is_open (mark_at node q.product) ≡ true → HasSmallParts segments slopes q) order
  products_small some r d l up k m =
      let q : Ranked = get_or order r d in
      let of : q.product < product_count p = (order_of p order fits.order r d l).1 in
      let heavy = weight_with p (segment_at p k) node q.product of up in
      let s = scaled k (picked node (λ i. eqb i q.product)) m (picked_completes node (λ i. eqb i q.product)) (one_room_false p node q.product some) in
      subst (λ (g : SegmentData). (slope_at slopes k).scale * attraction_of g q.product ≤ parts) (sym (same_segment k)) (product_below (slope_at slopes k).scale (attraction_of (segment_at p k) q.product) (weight_of p (segment_at p k) (picked node (λ i. eqb i q.product))) heavy s)
    where
      product_below : (t v w : ℕ) → v ≤ w → t * w ≤ parts → t * v ≤ parts
      product_below t v w l h = let m : t * v ≤ t * w = mul-le-mul_left t l in omega (arith, m, h)

  -- ---- The number.

  heights_raised : heights_of sums slopes (length slopes) ≡ raised p node (fill_of node)
  heights_raised =
      ap (heights_of sums slopes) are.each
      ∙ sum_below-same (length p.segments) (λ k. parts * (slope_at slopes k).units + (slope_at slopes k).scale * ((slope_at slopes k).share * (sums_at sums k).gain))
      (λ k. parts * units_at p node k + scale_at p node k * (share_at p k * gain_of p (segment_at p k) (fill_of node)))
      (λ k l. same (slope_at slopes k).units (units_at p node k) (slope_at slopes k).scale (scale_at p node k) (slope_at slopes k).share (share_at p k) (sums_at sums k).gain (gain_of p (segment_at p k) (fill_of node))
      (are.slope k l).units (are.slope k l).scale (are.slope k l).share (gain_fill p order (segment_at p k) node (sums_at sums k) fits.order (sums_are k l)))
    where
      same : (u u' t t' s s' g g' : ℕ) → u ≡ u' → t ≡ t' → s ≡ s' → g ≡ g' → parts * u + t * (s * g) ≡ parts * u' + t' * (s' * g')
      same u u' t t' s s' g g' a b c d = rw (a, b, c, d) refl

  depths_lowered : depths_of sums slopes (length slopes) ≡ lowered p node (fill_of node)
  depths_lowered =
      ap (depths_of sums slopes) are.each
      ∙ sum_below-same (length p.segments) (λ k. (slope_at slopes k).scale * ((slope_at slopes k).units * (sums_at sums k).weight)) (λ k. scale_at p node k * (units_at p node k * weight_of p (segment_at p k) (fill_of node)))
      (λ k l. same (slope_at slopes k).units (units_at p node k) (slope_at slopes k).scale (scale_at p node k) (sums_at sums k).weight (weight_of p (segment_at p k) (fill_of node))
      (are.slope k l).units (are.slope k l).scale (weight_fill p order (segment_at p k) node (sums_at sums k) fits.order (λ i. plain k i l) (sums_are k l)))
    where
      same : (u u' t t' w w' : ℕ) → u ≡ u' → t ≡ t' → w ≡ w' → t * (u * w) ≡ t' * (u' * w')
      same u u' t t' w w' a b c = rw (a, b, c) refl

  part_same : (i k : ℕ) → k < length p.segments → parts_of segments slopes (ranked_at p i) k ≡ scale_at p node k * attraction_of (segment_at p k) i
  part_same i k l = ap (λ t. t * attraction_of (listed_segment segments k) i) (are.slope k l).scale ∙ ap (λ (g : SegmentData). scale_at p node k * attraction_of g i) (same_segment k)

  gains_same : (i : ℕ) → gains_of segments slopes (ranked_at p i) (length slopes) ≡ gains_at p node i
  gains_same i =
      ap (gains_of segments slopes (ranked_at p i)) are.each
      ∙ sum_below-same (length p.segments) (λ k. parts_of segments slopes (ranked_at p i) k * ((slope_at slopes k).share * margin_of p i)) (λ k. scale_at p node k * attraction_of (segment_at p k) i * (share_at p k * margin_of p i))
      (λ k l. same (parts_of segments slopes (ranked_at p i) k) (scale_at p node k * attraction_of (segment_at p k) i) (slope_at slopes k).share (share_at p k) (margin_of p i) (part_same i k l) (are.slope k l).share)
    where
      same : (t t' s s' m : ℕ) → t ≡ t' → s ≡ s' → t * (s * m) ≡ t' * (s' * m)
      same t t' s s' m a b = rw (a, b) refl

  costs_same : (i : ℕ) → costs_of segments slopes (ranked_at p i) (length slopes) ≡ costs_at p node i
  costs_same i =
      ap (costs_of segments slopes (ranked_at p i)) are.each
      ∙ sum_below-same (length p.segments) (λ k. parts_of segments slopes (ranked_at p i) k * (slope_at slopes k).units) (λ k. scale_at p node k * attraction_of (segment_at p k) i * units_at p node k)
      (λ k l. same (parts_of segments slopes (ranked_at p i) k) (scale_at p node k * attraction_of (segment_at p k) i) (slope_at slopes k).units (units_at p node k) (part_same i k l) (are.slope k l).units)
    where
      same : (t t' u u' : ℕ) → t ≡ t' → u ≡ u' → t * u ≡ t' * u'
      same t t' u u' a b = rw (a, b) refl

  raise_same : (i : ℕ) → raise_of segments slopes (ranked_at p i) ≡ gains_at p node i - costs_at p node i
  raise_same i = same (gains_of segments slopes (ranked_at p i) (length slopes)) (gains_at p node i) (costs_of segments slopes (ranked_at p i) (length slopes)) (costs_at p node i) (gains_same i) (costs_same i)
    where
      same : (a a' b b' : ℕ) → a ≡ a' → b ≡ b' → a - b ≡ a' - b'
      same a a' b b' e f = rw (e, f) refl

  -- What is summed, rounded down to units, is the tangent's bound.
  pub tangent_is : (h s d r room : ℕ) → room ≡ room_at p node → h ≡ heights_of sums slopes (length slopes) → IsTopOf (length order) (open_raise order segments slopes node) room s → d ≡ depths_of sums slopes (length slopes) → r ≡ h + s - d
      → r / parts ≡ tangent_bound p node
  tangent_is h s d r room here eh top ed er =
      let top' : IsTopOf (length order) (open_raise order segments slopes node) (room_at p node) s = rw here at top in
      let by_place = open_top p order node (raise_of segments slopes) (λ i. gains_at p node i - costs_at p node i) (room_at p node) s fits.order raise_same top' in
      ap (λ t. t / parts) (er ∙ (two h (raised p node (fill_of node)) s d (lowered p node (fill_of node)) (eh ∙ heights_raised) (ed ∙ depths_lowered) ∙ tangent_top p node plain s by_place))
    where
      two : (a a' b c c' : ℕ) → a ≡ a' → c ≡ c' → a + b - c ≡ a' + b - c'
      two a a' b c c' e g = rw (e, g) refl

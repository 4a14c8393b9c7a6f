-- What the tangent comes to at a node.
use Rattle.std.proofs.Common.{◌≡◌, ℕ, zero, suc, ◌+◌, ◌-◌, ◌*◌, ◌<◌, ◌≤◌, Bool, true, false, cond, ltb, ◌&&◌, List, length, refl, sym, ap, ◌∙◌, subst, arith}
use Rattle.std.specs.Prelude.{sum_by}
use Rattle.offer_model.specs.declared.node.Mark.{Mark}
use Rattle.offer_model.specs.declared.node.Mark.TheVariants.{Open, In, Out}
use Rattle.offer_model.specs.Assortments.{offers, sum_below}
use Rattle.offer_model.specs.Problems.{ProblemData, SegmentData, product_count, margin_of, attraction_of, shadow_of, segment_at}
use Rattle.offer_model.specs.Revenue.{weight_of}
use Rattle.offer_model.specs.Nodes.{mark_at, is_in, is_open, Agrees, Completes, fill_of}
use Rattle.offer_model.proofs.CompletionLemmas.{Completes-agrees}
use Rattle.offer_model.proofs.NodeLemmas.{offers-fill_of}
use Rattle.offer_model.proofs.SumLemmas.{sum_below-same, sum_below-zeros, over, sum_le}
use Rattle.segment_bound.specs.declared.order.Ranked.{Ranked}
use Rattle.segment_bound.specs.declared.sums.Sums.{Sums}
use Rattle.segment_bound.specs.Orders.{IsOrder}
use Rattle.segment_bound.specs.Sums.{AreSums}
use Rattle.segment_bound.specs.Greatest.{greatest}
use Rattle.segment_bound.specs.Tangents.{parts, units_at, room_at, added, within_cap, scale_at, share_at, raised, lowered, tangent_at}
use Rattle.segment_bound.specs.Tops.{IsTopOf}
use Rattle.segment_bound.proofs.OrderLemmas.{sum_order}
use Rattle.segment_bound.proofs.GreatestLemmas.{greatest_one, picked, picked_completes, picked_offers, chosen, plain_weight, weight_plain}
use Rattle.segment_bound.proofs.LinearLemmas.{raised_by_product, lowered_by_product, less_or_same, same_difference}
use Rattle.segment_bound.proofs.TopLemmas.{IsChoice, top_most, top_choice}
use Rattle.std.proofs.lemmas.Bool.Decides.{nat_tests}

-- ---- The greatest where there is room.

no_more_here : (m : Mark) (y : Bool) (a b : ℕ) → Agrees m y
    → cond y a 0 + cond (is_in m) b 0 ≤ cond y b 0 + cond (is_in m) a 0 + cond (is_open m && y) (cond (is_open m) (a - b) 0) 0
no_more_here In true a b e = omega arith
no_more_here In false a b e = absurd cc
no_more_here Out true a b e = absurd cc
no_more_here Out false a b e = omega arith
no_more_here Open true a b e = omega arith
no_more_here Open false a b e = omega arith

no_more : (n : ℕ) (m : ℕ → Mark) (y : ℕ → Bool) (a b : ℕ → ℕ) → ((i : ℕ) → Agrees (m i) (y i))
    → over n y a + over n (λ i. is_in (m i)) b ≤ over n y b + over n (λ i. is_in (m i)) a + over n (λ i. is_open (m i) && y i) (λ i. cond (is_open (m i)) (a i - b i) 0)
no_more zero m y a b e = omega arith
no_more (suc n) m y a b e =
    let before = no_more n m y a b e in
    let here = no_more_here (m n) (y n) (a n) (b n) (e n) in
    omega (arith, before, here)

as_much_here : (m : Mark) (s : Bool) (a b : ℕ) → (s ≡ true → 0 < cond (is_open m) (a - b) 0)
    → cond (chosen m s) a 0 + cond (is_in m) b 0 ≡ cond (chosen m s) b 0 + cond (is_in m) a 0 + cond s (cond (is_open m) (a - b) 0) 0
as_much_here In true a b e = let l = e refl in absurd (omega arith)
as_much_here In false a b e = omega arith
as_much_here Out true a b e = let l = e refl in absurd (omega arith)
as_much_here Out false a b e = omega arith
as_much_here Open true a b e = let l = e refl in omega arith
as_much_here Open false a b e = omega arith

as_much : (n : ℕ) (m : ℕ → Mark) (y s : ℕ → Bool) (a b : ℕ → ℕ) → ((i : ℕ) → y i ≡ chosen (m i) (s i)) → ((i : ℕ) → s i ≡ true → 0 < cond (is_open (m i)) (a i - b i) 0)
    → over n y a + over n (λ i. is_in (m i)) b ≡ over n y b + over n (λ i. is_in (m i)) a + over n s (λ i. cond (is_open (m i)) (a i - b i) 0)
as_much zero m y s a b e h = omega arith
as_much (suc n) m y s a b e h =
    let before = as_much n m y s a b e h in
    let here = as_much_here (m n) (s n) (a n) (b n) (h n) in
    let same : cond (y n) (a n) 0 ≡ cond (chosen (m n) (s n)) (a n) 0 = ap (λ t. cond t (a n) 0) (e n) in
    let same_b : cond (y n) (b n) 0 ≡ cond (chosen (m n) (s n)) (b n) 0 = ap (λ t. cond t (b n) 0) (e n) in
    omega (arith, before, here, same, same_b)

-- What is chosen of the Open products is counted.
chosen_here : (m : Mark) (s y : Bool) → y ≡ chosen m s → cond (is_open m && y) 1 0 ≤ cond s 1 0
chosen_here In s y e = omega arith
chosen_here Out s y e = omega arith
chosen_here Open true y e = rw e (omega arith)
chosen_here Open false y e = rw e (omega arith)

room_false : (r a : ℕ) → a ≤ r → ltb r a ≡ false
room_false r a l = grind (arith, nat_tests)

room_le : (r a : ℕ) → ltb r a ≡ false → a ≤ r
room_le r a e = grind (arith, nat_tests)

over_zero : (n : ℕ) (y : ℕ → Bool) → over n y (λ i. 0) ≡ 0
over_zero n y = sum_below-zeros n (λ i. cond (y i) 0 0) (λ i l. elim (y i) as (λ t. ◌≡◌ {A = ℕ} (cond t 0 0) 0) [ true ↦ refl | false ↦ refl ])

-- A difference of two linear functions has its greatest, among completions that there is room for, where what is In and the
-- greatest differences of what is Open are offered.
module _ (p : ProblemData) (node : List Mark) (F : List Bool → ℕ) (R D : ℕ) (a b : ℕ → ℕ) (total : ℕ)
    (is : (y : List Bool) → F y ≡ R + over (product_count p) (offers y) a - (D + over (product_count p) (offers y) b))
    (top : IsTopOf (product_count p) (λ i. cond (is_open (mark_at node i)) (a i - b i) 0) (room_at p node) total) where
  choice : IsChoice (product_count p) (λ i. cond (is_open (mark_at node i)) (a i - b i) 0) (room_at p node) total
  choice = top_choice (product_count p) (λ i. cond (is_open (mark_at node i)) (a i - b i) 0) (room_at p node) total top

  abbrev chosen_best : List Bool
  chosen_best = picked node choice.picks

  abbrev peak : ℕ
  peak = R + over (product_count p) (λ i. is_in (mark_at node i)) a + total - (D + over (product_count p) (λ i. is_in (mark_at node i)) b)

  best_room : ltb (room_at p node) (added p node chosen_best) ≡ false
  best_room =
      let count = sum_le (product_count p) (λ i. cond (is_open (mark_at node i) && offers chosen_best i) 1 0) (λ i. cond (choice.picks i) 1 0)
      (λ i l. chosen_here (mark_at node i) (choice.picks i) (offers chosen_best i) (picked_offers node choice.picks i)) in
      let few = choice.few in
      room_false (room_at p node) (added p node chosen_best) (omega (arith, count, few))

  best_value : F chosen_best ≡ peak
  best_value =
      let much = as_much (product_count p) (mark_at node) (offers chosen_best) choice.picks a b (picked_offers node choice.picks) choice.some in
      let sum = choice.sum in
      is chosen_best ∙ same_difference R D (over (product_count p) (offers chosen_best) a) (over (product_count p) (offers chosen_best) b)
      (over (product_count p) (λ i. is_in (mark_at node i)) a) (over (product_count p) (λ i. is_in (mark_at node i)) b) total (omega (arith, much, sum))

  best_peak : within_cap p node F chosen_best ≡ peak
  best_peak = rw best_room best_value

  no_value_above : (y : List Bool) → Completes node y → added p node y ≤ room_at p node → F y ≤ peak
  no_value_above y c few =
      let more = no_more (product_count p) (mark_at node) (offers y) a b (Completes-agrees node y c) in
      let most = top_most (product_count p) (λ i. is_open (mark_at node i) && offers y i) (λ i. cond (is_open (mark_at node i)) (a i - b i) 0) (room_at p node) total top few in
      subst (λ t. t ≤ peak) (sym (is y)) (less_or_same R D (over (product_count p) (offers y) a) (over (product_count p) (offers y) b)
      (over (product_count p) (λ i. is_in (mark_at node i)) a) (over (product_count p) (λ i. is_in (mark_at node i)) b) total (omega (arith, more, most)))

  none_above : (y : List Bool) → Completes node y → (t : Bool) → ltb (room_at p node) (added p node y) ≡ t → within_cap p node F y ≤ peak
  none_above y c true e = rw e (omega arith)
  none_above y c false e = rw e (no_value_above y c (room_le (room_at p node) (added p node y) e))

  pub capped_top : peak ≡ greatest (within_cap p node F) node
  capped_top = sym best_peak ∙ greatest_one (within_cap p node F) node chosen_best (picked_completes node choice.picks)
      (λ y c. subst (λ t. within_cap p node F y ≤ t) (sym best_peak) (none_above y c (ltb (room_at p node) (added p node y)) refl))

-- ---- The greatest weight.

-- What is In and the greatest attractions of what is Open weigh most.
pub weight_greatest : (p : ProblemData) (order : List Ranked) (g : SegmentData) (node : List Mark) (s : Sums) (total : ℕ) → IsOrder p order → ((i : ℕ) → shadow_of g i ≡ 0) → AreSums order g node s
    → IsTopOf (product_count p) (λ i. cond (is_open (mark_at node i)) (attraction_of g i - 0) 0) (room_at p node) total → s.weight + total ≡ greatest (within_cap p node (weight_of p g)) node
weight_greatest p order g node s total o plain sums top =
    let e = sums.weight in
    let a : sum_by (λ q. cond (is_in (mark_at node q.product)) (attraction_of g q.product) 0) order ≡ over (product_count p) (λ i. is_in (mark_at node i)) (attraction_of g)
    = sum_order p order o (λ q. cond (is_in (mark_at node q.product)) (attraction_of g q.product) 0) in
    let z = over_zero (product_count p) (λ i. is_in (mark_at node i)) in
    let peak = capped_top p node (weight_of p g) g.none 0 (attraction_of g) (λ i. 0) total (λ y. (let w = weight_plain p g y plain in let zy = over_zero (product_count p) (offers y) in omega (arith, w, zy))) top in
    let w : s.weight + total ≡ g.none + over (product_count p) (λ i. is_in (mark_at node i)) (attraction_of g) + total - (0 + over (product_count p) (λ i. is_in (mark_at node i)) (λ i. 0)) = omega (arith, e, a, z) in
    w ∙ peak

-- ---- The tangent, product by product.

-- What product i gains in all segments, and what its weight costs.
abbrev pub gains_at : ProblemData → List Mark → ℕ → ℕ
gains_at p node i = sum_below (length p.segments) (λ k. scale_at p node k * attraction_of (segment_at p k) i * (share_at p k * margin_of p i))

abbrev pub costs_at : ProblemData → List Mark → ℕ → ℕ
costs_at p node i = sum_below (length p.segments) (λ k. scale_at p node k * attraction_of (segment_at p k) i * units_at p node k)

abbrev base : ProblemData → List Mark → ℕ
base p node = sum_below (length p.segments) (λ k. parts * units_at p node k)

abbrev floor : ProblemData → List Mark → ℕ
floor p node = sum_below (length p.segments) (λ k. scale_at p node k * (units_at p node k * (segment_at p k).none))

module _ (p : ProblemData) (node : List Mark) (plain : (k i : ℕ) → k < length p.segments → shadow_of (segment_at p k) i ≡ 0) where
  raised_is : (y : List Bool) → raised p node y ≡ base p node + over (product_count p) (offers y) (gains_at p node)
  raised_is y = raised_by_product (length p.segments) (product_count p) (offers y) parts (units_at p node) (scale_at p node) (share_at p) (margin_of p) (λ k. attraction_of (segment_at p k))

  lowered_is : (y : List Bool) → lowered p node y ≡ floor p node + over (product_count p) (offers y) (costs_at p node)
  lowered_is y =
      sum_below-same (length p.segments) (λ k. scale_at p node k * (units_at p node k * weight_of p (segment_at p k) y)) (λ k. scale_at p node k * (units_at p node k * plain_weight p (segment_at p k) y))
      (λ k l. ap (λ t. scale_at p node k * (units_at p node k * t)) (weight_plain p (segment_at p k) y (λ i. plain k i l)))
      ∙ lowered_by_product (length p.segments) (product_count p) (offers y) (units_at p node) (scale_at p node) (λ k. (segment_at p k).none) (λ k. attraction_of (segment_at p k))

  difference_is : (y : List Bool) → tangent_at p node y ≡ base p node + over (product_count p) (offers y) (gains_at p node) - (floor p node + over (product_count p) (offers y) (costs_at p node))
  difference_is y = two (raised p node y) (base p node + over (product_count p) (offers y) (gains_at p node)) (lowered p node y) (floor p node + over (product_count p) (offers y) (costs_at p node)) (raised_is y) (lowered_is y)
    where
      two : (a b c d : ℕ) → a ≡ b → c ≡ d → a - c ≡ b - d
      two a b c d e f = omega arith

  fill_over : (f : ℕ → ℕ) → over (product_count p) (offers (fill_of node)) f ≡ over (product_count p) (λ i. is_in (mark_at node i)) f
  fill_over f = sum_below-same (product_count p) (λ i. cond (offers (fill_of node) i) (f i) 0) (λ i. cond (is_in (mark_at node i)) (f i) 0) (λ i l. ap (λ b. cond b (f i) 0) (offers-fill_of node i))

  -- The tangent where what is In is offered, and what raises it most.
  pub tangent_top : (total : ℕ) → IsTopOf (product_count p) (λ i. cond (is_open (mark_at node i)) (gains_at p node i - costs_at p node i) 0) (room_at p node) total
      → raised p node (fill_of node) + total - lowered p node (fill_of node) ≡ greatest (within_cap p node (tangent_at p node)) node
  tangent_top total top =
      two (raised p node (fill_of node)) (lowered p node (fill_of node)) total (base p node) (over (product_count p) (offers (fill_of node)) (gains_at p node)) (over (product_count p) (λ i. is_in (mark_at node i)) (gains_at p node))
      (floor p node) (over (product_count p) (offers (fill_of node)) (costs_at p node)) (over (product_count p) (λ i. is_in (mark_at node i)) (costs_at p node))
      (raised_is (fill_of node)) (lowered_is (fill_of node)) (fill_over (gains_at p node)) (fill_over (costs_at p node))
      ∙ capped_top p node (tangent_at p node) (base p node) (floor p node) (gains_at p node) (costs_at p node) total difference_is top
    where
      two : (a d s b g g' f c c' : ℕ) → a ≡ b + g → d ≡ f + c → g ≡ g' → c ≡ c' → a + s - d ≡ b + g' + s - (f + c')
      two a d s b g g' f c c' e h i j = omega arith

use Rattle.std.proofs.Common.{◌≡◌, ℕ, ◌*◌, ◌^◌, ◌<◌, ◌≤◌, List, length, ap, sym, ◌∙◌, subst, arith, inl, inr}
use Rattle.std.specs.Prelude.{slice_index}
use Rattle.std.proofs.Math.Nat.{mul-le-mul}
use Rattle.std.proofs.lemmas.Bool.{cases_eq}
use Rattle.offer_model.specs.declared.node.Mark.{Mark}
use Rattle.offer_model.specs.Problems.{ProblemData, SegmentData, segment_at}
use Rattle.offer_model.specs.NodeValues.{AreGreatestValues}
use Rattle.offer_model.proofs.EarningLemmas.{segment_at-valid}
use Rattle.segment_bound.specs.declared.order.Ranked.{Ranked}
use Rattle.segment_bound.specs.declared.sums.Sums.{Sums}
use Rattle.segment_bound.specs.Sums.{AreSums}
use Rattle.segment_bound.specs.Kept.{Fits, IsKept, sums_at, listed_segment}
use Rattle.segment_bound.specs.Tangents.{units_at, share_at}
use Rattle.segment_bound.proofs.KeptLemmas.{start_small}
use Rattle.segment_bound.proofs.GreatestLemmas.{greatest_small, greatest_value_one}
use Rattle.segment_bound.proofs.TangentValueLemmas.{reached_below}
use Rattle.segment_bound.proofs.bounds.are_reached.Goals as goal

-- What is known of segment k.
module _ (p : ProblemData) (order : List Ranked) (segments : List SegmentData) (node : List Mark) (sums : List Sums) (values : List ℕ) (k : ℕ)
    (fits : Fits p (record { order = order; segments = segments })) (kept : IsKept order segments node sums) (greatest : AreGreatestValues p node values) (l : k < length sums) where
  inside : k < length p.segments
  inside = let each = kept.each in let same = ap (λ (gs : List SegmentData). length gs) fits.segments in omega (arith, each, same, l)

  value_is : slice_index values k ≡ units_at p node k
  value_is = let count = greatest.each in let i = inside in greatest_value_one p (segment_at p k) node (slice_index values k) (greatest.greatest k (omega (arith, count, i)))

  value_small : slice_index values k ≤ 10 ^ 18
  value_small = let e = value_is in let m = greatest_small p k node fits.valid inside in omega (arith, e, m)

  sums_small : ((sums_at sums k).gain ≤ 256 * 10 ^ 18) × ((sums_at sums k).weight ≤ 257 * 10 ^ 9)
  sums_small =
      let each = kept.each in
      let same : listed_segment segments k ≡ segment_at p k = ap (λ (gs : List SegmentData). listed_segment gs k) fits.segments in
      let own = subst (λ (g : SegmentData). AreSums order g node (sums_at sums k)) same (kept.each_sum k (omega (arith, each, l))) in
      start_small p order (segment_at p k) node (sums_at sums k) fits.valid fits.order (segment_at-valid p k fits.valid inside) own

-- From what the calls answered to what is defined, and back.
defined : (s s' u u' w g : ℕ) → s ≡ s' → u ≡ u' → u * w ≤ s * g → u' * w ≤ s' * g
defined s s' u u' w g a b l = subst (λ t. t * w ≤ s' * g) b (subst (λ t. u * w ≤ t * g) a l)

pub overflow_mul-needed : goal.overflow_mul-needed
overflow_mul-needed c =
    let u = value_small c.args.p.now c.args.order.now c.args.segments.now.items c.args.node.now c.args.sums.now c.args.greatest.now c.loop-k.k c.requires.fits c.requires.kept c.requires.greatest c.loop-k-test.true in
    let s = sums_small c.args.p.now c.args.order.now c.args.segments.now.items c.args.node.now c.args.sums.now c.args.greatest.now c.loop-k.k c.requires.fits c.requires.kept c.requires.greatest c.loop-k-test.true in
    let a = c.from.ensures in
    let b = c.from-in-loop-k.ensures in
    let w = s.1 in
    let t = mul-le-mul {n₁ = c.from.result} {m₁ = c.from-in-loop-k.result} {n₂ = 10 ^ 18} {m₂ = 257 * 10 ^ 9} (omega (arith, a, u)) (omega (arith, b, w)) in
    grind (arith, t)

pub overflow_mul-share : goal.overflow_mul-share
overflow_mul-share c =
    let s = sums_small c.args.p.now c.args.order.now c.args.segments.now.items c.args.node.now c.args.sums.now c.args.greatest.now c.loop-k.k c.requires.fits c.requires.kept c.requires.greatest c.loop-k-test.true in
    let t = mul-le-mul {n₁ = c.share.result} {m₁ = (sums_at c.args.sums.now c.loop-k.k).gain} {n₂ = 10 ^ 9} {m₂ = 256 * 10 ^ 18} c.share.ensures.bound s.0 in
    grind (arith, t)

pub returns-then-share-sums-clause-short : goal.returns-then-share-sums-clause-short
returns-then-share-sums-clause-short c e reached =
    let i = inside c.args.p.now c.args.order.now c.args.segments.now.items c.args.node.now c.args.sums.now c.args.greatest.now c.loop-k.k c.requires.fits c.requires.kept c.requires.greatest c.loop-k-test.true in
    let u = value_is c.args.p.now c.args.order.now c.args.segments.now.items c.args.node.now c.args.sums.now c.args.greatest.now c.loop-k.k c.requires.fits c.requires.kept c.requires.greatest c.loop-k-test.true in
    let l = defined (share_at c.args.p.now c.loop-k.k) c.share.result (units_at c.args.p.now c.args.node.now c.loop-k.k) c.from.result (sums_at c.args.sums.now c.loop-k.k).weight (sums_at c.args.sums.now c.loop-k.k).gain
    (sym c.share.ensures.value) (sym (c.from.ensures ∙ u)) (reached c.loop-k.k i) in
    let w = ap (λ t. c.from.result * t) c.from-in-loop-k.ensures in
    let less = c.if-share-sums.true in
    omega (arith, l, w, less)

pub returns-clause-below : goal.returns-clause-below
returns-clause-below c e =
    let each = c.requires.kept.each in
    let same = ap (λ (gs : List SegmentData). length gs) c.requires.fits.segments in
    let done = c.loop-k-test.false in
    reached_below c.args.p.now c.args.order.now c.args.segments.now.items c.args.node.now c.args.sums.now c.requires.fits c.requires.kept (λ k l. c.loop-k.invariant k (omega (arith, each, same, done, l)))

pub loop-k-preserved : goal.loop-k-preserved
loop-k-preserved c j below = elim (cases_eq j c.loop-k.k) [
  | inl e ↦ subst (λ n. units_at c.args.p.now c.args.node.now n * (sums_at c.args.sums.now n).weight ≤ share_at c.args.p.now n * (sums_at c.args.sums.now n).gain) (sym e) here
  | inr ne ↦ c.loop-k.invariant j (omega (arith, below, ne))
]
  where
    here : units_at c.args.p.now c.args.node.now c.loop-k.k * (sums_at c.args.sums.now c.loop-k.k).weight ≤ share_at c.args.p.now c.loop-k.k * (sums_at c.args.sums.now c.loop-k.k).gain
    here =
        let u = value_is c.args.p.now c.args.order.now c.args.segments.now.items c.args.node.now c.args.sums.now c.args.greatest.now c.loop-k.k c.requires.fits c.requires.kept c.requires.greatest c.loop-k-test.true in
        let w = ap (λ t. c.from.result * t) c.from-in-loop-k.ensures in
        let least = c.if-share-sums.false in
        defined c.share.result (share_at c.args.p.now c.loop-k.k) c.from.result (units_at c.args.p.now c.args.node.now c.loop-k.k) (sums_at c.args.sums.now c.loop-k.k).weight (sums_at c.args.sums.now c.loop-k.k).gain
        c.share.ensures.value (c.from.ensures ∙ u) (omega (arith, w, least))

use Rattle.std.proofs.Common.{◌≡◌, suc, ◌+◌, ◌*◌, ◌^◌, ◌≤◌, arith, sym, ap, ◌∙◌}
use Rattle.std.proofs.lemmas.Option.{get_or_from_slice_get}
use Rattle.offer_model.specs.Problems.{SegmentData, attraction_of}
use Rattle.segment_bound.specs.Kept.{listed_segment}
use Rattle.segment_bound.specs.Slopes.{slope_at, parts_of, gains_of, costs_of}
use Rattle.segment_bound.proofs.LinearLemmas.{sum_next, within}
use Rattle.segment_bound.proofs.SlopeLemmas.{gains_most, costs_most, share_small, product_small, product_is}
use Rattle.segment_bound.proofs.tangent.price_of.Goals.{After-from-parts, After-from, After-from-in-loop-k}
use Rattle.segment_bound.proofs.tangent.price_of.Goals as goal

pub overflow_mul-slope-in-loop-k : goal.overflow_mul-slope-in-loop-k
overflow_mul-slope-in-loop-k c =
    let share = share_small c.args.slopes.now c.loop-k.k c.requires.small c.loop-k-test.true in
    let t = product_small (slope_at c.args.slopes.now c.loop-k.k).share c.args.q.margin share c.requires.margin in
    grind (arith, t)

-- The parts of the product's weight.
part_is : (c : After-from-parts) → c.from-parts.result ≡ parts_of c.args.segments.now.items c.args.slopes.now c.args.q c.loop-k.k
part_is c =
    let same : listed_segment c.args.segments.now.items c.loop-k.k ≡ c.get.result.now = get_or_from_slice_get c.args.segments.now.items c.loop-k.k c.get.result.now _ c.get.ensures in
    let attraction : c.attract.result ≡ attraction_of (listed_segment c.args.segments.now.items c.loop-k.k) c.args.q.product = c.attract.ensures.value ∙ ap (λ (g : SegmentData). attraction_of g c.args.q.product) (sym same) in
    c.from-parts.ensures ∙ ap (λ t. (slope_at c.args.slopes.now c.loop-k.k).scale * t) attraction

gains_fit : (c : After-from) → c.from-parts.result ≡ parts_of c.args.segments.now.items c.args.slopes.now c.args.q c.loop-k.k → c.loop-k.gains + c.from-parts.result * c.from.result ≤ 2 ^ 60 * 10 ^ 18
gains_fit c part =
    let inside = c.loop-k-test.true in
    let m = gains_most c.args.segments.now.items c.args.slopes.now c.args.q (suc c.loop-k.k) c.requires.small c.requires.parts c.requires.margin (omega arith) in
    within c.loop-k.gains (gains_of c.args.segments.now.items c.args.slopes.now c.args.q c.loop-k.k) c.from-parts.result c.from.result
    (parts_of c.args.segments.now.items c.args.slopes.now c.args.q c.loop-k.k) ((slope_at c.args.slopes.now c.loop-k.k).share * c.args.q.margin) (2 ^ 60 * 10 ^ 18) c.loop-k.invariant.gains part c.from.ensures m

costs_fit : (c : After-from-in-loop-k) → c.from-parts.result ≡ parts_of c.args.segments.now.items c.args.slopes.now c.args.q c.loop-k.k → c.loop-k.costs + c.from-parts.result * c.from-in-loop-k.result ≤ 2 ^ 60 * 10 ^ 18
costs_fit c part =
    let inside = c.loop-k-test.true in
    let m = costs_most c.args.segments.now.items c.args.slopes.now c.args.q (suc c.loop-k.k) c.requires.small c.requires.parts (omega arith) in
    within c.loop-k.costs (costs_of c.args.segments.now.items c.args.slopes.now c.args.q c.loop-k.k) c.from-parts.result c.from-in-loop-k.result
    (parts_of c.args.segments.now.items c.args.slopes.now c.args.q c.loop-k.k) (slope_at c.args.slopes.now c.loop-k.k).units (2 ^ 60 * 10 ^ 18) c.loop-k.invariant.costs part c.from-in-loop-k.ensures m

pub overflow_mul-gains : goal.overflow_mul-gains
overflow_mul-gains c = let t = gains_fit (goal.at.overflow_mul-gains c).After-from (part_is (goal.at.overflow_mul-gains c).After-from-parts) in grind (arith, t)

pub overflow_add-gains : goal.overflow_add-gains
overflow_add-gains c = let t = gains_fit (goal.at.overflow_add-gains c).After-from (part_is (goal.at.overflow_add-gains c).After-from-parts) in grind (arith, t)

pub overflow_mul-costs : goal.overflow_mul-costs
overflow_mul-costs c = let t = costs_fit (goal.at.overflow_mul-costs c).After-from-in-loop-k (part_is (goal.at.overflow_mul-costs c).After-from-parts) in grind (arith, t)

pub overflow_add-costs : goal.overflow_add-costs
overflow_add-costs c = let t = costs_fit (goal.at.overflow_add-costs c).After-from-in-loop-k (part_is (goal.at.overflow_add-costs c).After-from-parts) in grind (arith, t)

pub loop-k-preserved : goal.loop-k-preserved
loop-k-preserved c =
    let part = part_is (goal.at.loop-k-preserved c).After-from-parts in
    record {
      gains = sum_next c.loop-k.k (λ k. parts_of c.args.segments.now.items c.args.slopes.now c.args.q k * ((slope_at c.args.slopes.now k).share * c.args.q.margin)) c.loop-k.gains (c.from-parts.result * c.from.result) c.loop-k.invariant.gains
          (product_is c.from-parts.result c.from.result (parts_of c.args.segments.now.items c.args.slopes.now c.args.q c.loop-k.k) ((slope_at c.args.slopes.now c.loop-k.k).share * c.args.q.margin) part c.from.ensures);
      costs = sum_next c.loop-k.k (λ k. parts_of c.args.segments.now.items c.args.slopes.now c.args.q k * (slope_at c.args.slopes.now k).units) c.loop-k.costs (c.from-parts.result * c.from-in-loop-k.result) c.loop-k.invariant.costs
          (product_is c.from-parts.result c.from-in-loop-k.result (parts_of c.args.segments.now.items c.args.slopes.now c.args.q c.loop-k.k) (slope_at c.args.slopes.now c.loop-k.k).units part c.from-in-loop-k.ensures);
    }

pub returns-clause-most_gains : goal.returns-clause-most_gains
returns-clause-most_gains c =
    let m = gains_most c.args.segments.now.items c.args.slopes.now c.args.q c.loop-k.k c.requires.small c.requires.parts c.requires.margin (omega arith) in
    let e : c.loop-k.gains ≡ gains_of c.args.segments.now.items c.args.slopes.now c.args.q c.loop-k.k = c.loop-k.invariant.gains in
    omega (arith, m, e)

pub returns-clause-most_costs : goal.returns-clause-most_costs
returns-clause-most_costs c =
    let m = costs_most c.args.segments.now.items c.args.slopes.now c.args.q c.loop-k.k c.requires.small c.requires.parts (omega arith) in
    let e : c.loop-k.costs ≡ costs_of c.args.segments.now.items c.args.slopes.now c.args.q c.loop-k.k = c.loop-k.invariant.costs in
    omega (arith, m, e)

use Rattle.std.proofs.Common.{◌≡◌, ◌<◌, ◌*◌, ◌/◌, ◌∙◌, length, ℕ, arith, sym, ap, subst}
use Rattle.std.specs.List.{All}
use Rattle.std.proofs.lemmas.List.Elements.{All-get_or}
use Rattle.offer_model.specs.Problems.{SegmentData, product_count, segment_at}
use Rattle.offer_model.proofs.EarningLemmas.{segment_at-valid}
use Rattle.segment_bound.specs.Kept.{IsListed}
use Rattle.segment_bound.proofs.OrderLemmas.{length-order, order_listed}
use Rattle.segment_bound.proofs.KeptLemmas.{start_small}
use Rattle.segment_bound.proofs.GreatestLemmas.{quotient_greatest, quotient_small}
use Rattle.offer_model.specs.Revenue.{segment_value}
use Rattle.segment_bound.specs.Greatest.{greatest}
use Rattle.segment_bound.proofs.greatest.greatest.Goals.{After-from}
use Rattle.segment_bound.proofs.greatest.greatest.Goals as goal

pub reach-sums-requires-clause-listed : goal.reach-sums-requires-clause-listed
reach-sums-requires-clause-listed c =
    subst (λ (n : ℕ). All (IsListed n) c.args.order.now) (sym c.requires.node) (order_listed c.args.p.now c.args.order.now c.share-share.ensures.valid c.requires.order)

pub reach-sums-requires-clause-few : goal.reach-sums-requires-clause-few
reach-sums-requires-clause-few c =
    let long = length-order c.args.p.now c.args.order.now c.requires.order in
    let few = c.share-share.ensures.valid.few in
    omega (arith, long, few)

pub reach-sums-requires-clause-segment : goal.reach-sums-requires-clause-segment
reach-sums-requires-clause-segment c =
    let long = All-get_or (λ (g : SegmentData). length g.attract ≡ product_count c.args.p.now) c.args.p.now.segments c.args.k _ c.requires.inside c.share-share.ensures.valid.each in
    ap (λ (g : SegmentData). length g.attract) c.requires.segment ∙ (long ∙ sym c.requires.node)

pub reach-sums-requires-clause-start : goal.reach-sums-requires-clause-start
reach-sums-requires-clause-start c =
    start_small c.args.p.now c.args.order.now c.args.segment.now c.args.node.now c.args.start c.share-share.ensures.valid c.requires.order
    (rw c.requires.segment (segment_at-valid c.args.p.now c.args.k c.share-share.ensures.valid c.requires.inside)) c.requires.start

-- What the sums that are reached give.
reached_value : (c : After-from) → (0 < c.from.result)
    × (c.share-share.result * c.reach-sums.result.gain / c.from.result ≡ greatest (segment_value c.args.p.now (segment_at c.args.p.now c.args.k)) c.args.node.now)
reached_value c =
    quotient_greatest c.args.p.now c.args.order.now c.args.node.now c.args.k c.args.segment.now c.args.start c.reach-sums.result c.share-share.result c.from.result
    c.share-share.ensures.valid c.requires.model c.requires.inside c.requires.order c.requires.segment c.requires.start
    c.reach-sums.ensures.reached c.share-share.ensures.value c.from.ensures

pub nonzero_div-result : goal.nonzero_div-result
nonzero_div-result c = (reached_value (goal.at.nonzero_div-result c).After-from).0

pub overflow_cast-result : goal.overflow_cast-result
overflow_cast-result c =
    let e = (reached_value (goal.at.overflow_cast-result c).After-from).1 in
    let m = quotient_small c.args.p.now c.args.k _ c.args.node.now c.share-share.ensures.valid c.requires.inside e in
    grind (arith, m)

pub returns-clause-greatest : goal.returns-clause-greatest
returns-clause-greatest c = (reached_value (goal.at.returns-clause-greatest c).After-from).1

pub returns-clause-bound : goal.returns-clause-bound
returns-clause-bound c =
    let e = (reached_value (goal.at.returns-clause-bound c).After-from).1 in
    quotient_small c.args.p.now c.args.k _ c.args.node.now c.share-share.ensures.valid c.requires.inside e

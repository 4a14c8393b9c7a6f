use Rattle.std.proofs.Common.{◌≡◌, ◌∙◌, List, length, arith, ap, subst}
use Rattle.std.proofs.lemmas.Option.{get_or_from_slice_get}
use Rattle.offer_model.specs.Problems.{SegmentData}
use Rattle.segment_bound.specs.Sums.{AreSums}
use Rattle.segment_bound.specs.Kept.{sums_at, listed_segment}
use Rattle.segment_bound.proofs.OrderLemmas.{length-order}
use Rattle.segment_bound.proofs.GreatestLemmas.{greatest_values}
use Rattle.segment_bound.proofs.bounds.greatest_each.Goals as goal

pub greatest-requires-clause-node : goal.greatest-requires-clause-node
greatest-requires-clause-node c = c.requires.kept.long ∙ length-order c.args.p.now c.args.order.now c.requires.fits.order

pub greatest-requires-clause-start : goal.greatest-requires-clause-start
greatest-requires-clause-start c =
    let each = c.requires.kept.each in
    let inside = c.loop-k-test.true in
    let same : listed_segment c.args.segments.now.items c.loop-k.k ≡ c.get.result.now = get_or_from_slice_get c.args.segments.now.items c.loop-k.k c.get.result.now _ c.get.ensures in
    subst (λ (g : SegmentData). AreSums c.args.order.now g c.args.node.now (sums_at c.args.sums.now c.loop-k.k)) same (c.requires.kept.each_sum c.loop-k.k (omega (arith, each, inside)))

pub returns : goal.returns
returns c =
    let each = c.requires.kept.each in
    let same = ap (λ (gs : List SegmentData). length gs) c.requires.fits.segments in
    let done = c.loop-k-test.false in
    record { values = greatest_values c.args.p.now c.args.node.now c.loop-k.out c.loop-k.invariant.each (λ k l. c.loop-k.invariant.greatest k (omega (arith, each, same, done, l))) }

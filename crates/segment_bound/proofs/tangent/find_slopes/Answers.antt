use Rattle.std.proofs.Common.{List, length, ap, arith}
use Rattle.std.specs.Prelude.{slice_index}
use Rattle.offer_model.specs.Problems.{SegmentData, segment_at}
use Rattle.segment_bound.proofs.GreatestLemmas.{greatest_value_one}
use Rattle.segment_bound.proofs.tangent.find_slopes.Goals as goal

pub slope_of-requires-clause-units : goal.slope_of-requires-clause-units
slope_of-requires-clause-units c =
    let each = c.requires.kept.each in
    let same = ap (λ (gs : List SegmentData). length gs) c.requires.fits.segments in
    let count = c.requires.greatest.each in
    let inside = c.loop-k-test.true in
    greatest_value_one c.args.p.now (segment_at c.args.p.now c.loop-k.k) c.args.node.now (slice_index c.args.greatest.now c.loop-k.k) (c.requires.greatest.greatest c.loop-k.k (omega (arith, each, same, count, inside)))

use Rattle.std.proofs.Common.{arith}
use Rattle.proof_check.proofs.segments.segments_close.Goals as goal

pub sum_of_segments-bound-requires-clause-few : goal.sum_of_segments-bound-requires-clause-few
sum_of_segments-bound-requires-clause-few c =
    let own = c.fit_segments.ensures.fits.0 c.if-not-fit_segments.false in
    let few = c.fit_segments.ensures.valid.few_segments in
    omega (arith, own.each)

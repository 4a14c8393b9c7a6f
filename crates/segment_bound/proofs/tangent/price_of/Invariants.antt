use Rattle.std.proofs.Common.{◌≡◌}
use Rattle.segment_bound.specs.Slopes.{gains_of, costs_of}
use Rattle.segment_bound.proofs.tangent.price_of.Given as goal

abbrev pub invariant-loop-k : goal.invariant-loop-k
invariant-loop-k l = record {
  gains : l.gains ≡ gains_of l.segments.items l.slopes l.q l.k;
  costs : l.costs ≡ costs_of l.segments.items l.slopes l.q l.k;
}

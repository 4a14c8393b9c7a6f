use Rattle.std.proofs.Common.{◌≡◌, length}
use Rattle.multiplier_bound.specs.Fits.{AreSmall}
use Rattle.several_step.proofs.slopes.move_along.Given as goal

abbrev pub invariant-loop-k : goal.invariant-loop-k
invariant-loop-k l = record {
  us : length l.us.items ≡ length l.fn.us.items;
  small : AreSmall l.us.items;
}

-- The worked values, by computation.
use Rattle.std.proofs.Common.{refl}
use Rattle.segment_bound.specs.WorkedBounds.{BoundsAreWorked}

-- Each holds by computation.
pub bounds_worked : BoundsAreWorked
bounds_worked = record {
  both = refl;
  first = refl;
  second = refl;
  first_out = refl;
  second_out = refl;
  second_in = refl;
  dearest_open = refl;
  next_dearest = refl;
  nothing_open = refl;
  both_open = refl;
  one_of_two = refl;
  one_of_category = refl;
  three_of_five = refl;
  none_left = refl;
  first_of_order = refl;
  next_of_order = refl;
  none_of_order = refl;
}

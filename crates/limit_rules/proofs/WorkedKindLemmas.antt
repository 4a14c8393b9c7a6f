-- The kinds of worked lists of limits, by computation.
use Rattle.std.proofs.Common.{refl}
use Rattle.limit_rules.specs.WorkedKinds.{KindsAreWorked}

-- The worked lists have their kinds.
pub kinds_worked : KindsAreWorked
kinds_worked = record {
  free = refl;
  cap = refl;
  caps = refl;
  closure = refl;
  shelf = refl;
  two_shelves = refl;
  ladders = refl;
  mixed = refl;
}

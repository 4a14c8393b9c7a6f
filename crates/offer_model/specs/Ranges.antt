-- How great sums over a problem's products get. Own; each follows from the ranges of its parts.
use Rattle.std.specs.Prelude.{ℕ, ◌<◌, ◌^◌}
use Rattle.offer_model.specs.declared.products.Fraction.{Fraction}

-- Every gain is below this.
abbrev pub gain_bound : ℕ
gain_bound = 2 ^ 68

-- Every weight is below this.
abbrev pub weight_bound : ℕ
weight_bound = 2 ^ 38

-- A numerator and a denominator as gains and weights have them.
abbrev pub IsInBounds : Fraction → Type 0
IsInBounds at = (at.num < gain_bound) × (0 < at.den) × (at.den < weight_bound)

-- A number of a bound is at most this: as much as a line of a certificate can say.
abbrev pub number_bound : ℕ
number_bound = 2 ^ 108

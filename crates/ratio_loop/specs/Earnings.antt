-- Revenues as fractions, under a model with one segment. Own; after Gallego and Topaloglu (2019), logit and generalised
-- attraction.
use Rattle.std.specs.Prelude.{◌≡◌, ◌*◌, ◌≤◌, Bool, List}
use Rattle.offer_model.specs.declared.products.Fraction.{Fraction}
use Rattle.offer_model.specs.Problems.{ProblemData}
use Rattle.offer_model.specs.Revenue.{own_gain, own_weight, revenue_of}
use Rattle.offer_model.specs.Limits.{IsFeasible}

-- Equal as numbers.
abbrev pub IsSame : Fraction → Fraction → Type 0
IsSame a b = a.num * b.den ≡ b.num * a.den

-- The assortment earns this revenue.
abbrev pub Earns : ProblemData → List Bool → Fraction → Type 0
Earns p x at = IsSame (revenue_of p x) at

-- No feasible assortment earns more than this revenue.
abbrev pub IsGreatestRevenue : ProblemData → Fraction → Type 0
IsGreatestRevenue p at = (y : List Bool) → IsFeasible p y → own_gain p y * at.den ≤ at.num * own_weight p y

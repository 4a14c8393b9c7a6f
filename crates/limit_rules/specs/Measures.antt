-- What a cap or a shelf counts of a product. Own.
use Rattle.std.specs.Prelude.{ℕ, ◌==◌, cond}
use Rattle.offer_model.specs.Problems.{ProblemData, product_at}
use Rattle.limit_rules.specs.declared.measure.Measure.{Measure}
use Rattle.limit_rules.specs.declared.measure.Measure.TheVariants.{Each, OfCategory, Space}

-- What product i uses.
abbrev pub used_of : ProblemData → Measure → ℕ → ℕ
used_of p Each i = 1
used_of p (OfCategory c) i = cond ((product_at p i).category == c) 1 0
used_of p Space i = (product_at p i).space

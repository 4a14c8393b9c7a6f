-- The first limit that an assortment breaks. Own.
use Rattle.std.specs.Prelude.{ℕ, ◌<◌, Bool, List, length, Option, Some, None, slice_index_or}
use Rattle.offer_model.specs.declared.products.Limit.{Limit}
use Rattle.offer_model.specs.declared.products.Limit.TheVariants.{Total}
use Rattle.offer_model.specs.Problems.{ProblemData}
use Rattle.offer_model.specs.Limits.{Meets, IsFeasible}

-- The limit at place k, in file order.
abbrev pub limit_at : ProblemData → ℕ → Limit
limit_at p k = slice_index_or p.limits k (Total 0)

-- The assortment breaks the limit at place k, and meets the earlier ones.
pub record BreaksFirst (p : ProblemData) (x : List Bool) (k : ℕ) : Type 0 where
  pub there : k < length p.limits
  pub broken : Meets p x (limit_at p k) → ⊥
  pub earlier : (j : ℕ) → j < k → Meets p x (limit_at p j)

-- There is a first limit that is broken, or the assortment is feasible.
abbrev pub IsFirstBroken : ProblemData → List Bool → Option ℕ → Type 0
IsFirstBroken p x (Some k) = BreaksFirst p x k
IsFirstBroken p x None = IsFeasible p x

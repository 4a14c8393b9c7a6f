-- What callers' proofs need: the limit that is broken first is one.
use Rattle.std.proofs.Common.{◌≡◌, ap, ℕ, ◌<◌, Bool, List, Option, Some, None, arith, refl}
use Rattle.std.proofs.lemmas.List.Elements.{All-get_or}
use Rattle.offer_model.specs.declared.products.Limit.TheVariants.{Total}
use Rattle.offer_model.specs.Limits.{Meets, IsFeasible}
use Rattle.offer_model.specs.Problems.{ProblemData}
use Rattle.limit_rules.specs.Broken.{BreaksFirst, IsFirstBroken}

-- What is feasible breaks none.
feasible_breaks : (p : ProblemData) (x : List Bool) (k : ℕ) → IsFeasible p x → BreaksFirst p x k → ⊥
feasible_breaks p x k feasible first = first.broken (All-get_or (Meets p x) p.limits k (Total 0) first.there feasible.1)

-- Of two limits that are broken first neither stands before the other.
not_before : (p : ProblemData) (x : List Bool) (j k : ℕ) → BreaksFirst p x j → BreaksFirst p x k → j < k → ⊥
not_before p x j k first second before = first.broken (second.earlier j before)

-- There is one answer to which limit is broken first.
pub IsFirstBroken-same : (p : ProblemData) (x : List Bool) (a b : Option ℕ) → IsFirstBroken p x a → IsFirstBroken p x b → a ≡ b
IsFirstBroken-same p x (Some j) (Some k) first second = ap Some (same (λ l. not_before p x j k first second l) (λ l. not_before p x k j second first l))
  where
    same : (j < k → ⊥) → (k < j → ⊥) → j ≡ k
    same below above = grind arith
IsFirstBroken-same p x (Some j) None first feasible = absurd (feasible_breaks p x j feasible first)
IsFirstBroken-same p x None (Some k) feasible second = absurd (feasible_breaks p x k feasible second)
IsFirstBroken-same p x None None feasible other = refl

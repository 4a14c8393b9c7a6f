-- Limits one by one: how many have a multiplier, and what isn't denied of them holds.
use Rattle.std.proofs.Common.{ℕ, ◌≤◌, length, arith, inl, inr}
use Rattle.std.proofs.lemmas.Bool.{cases_lt}
use Rattle.std.proofs.lemmas.List.Sums.{length-filter, count_by-le-length}
use Rattle.offer_model.specs.declared.products.Product.{Product}
use Rattle.offer_model.specs.Problems.{ProblemData}
use Rattle.offer_model.specs.Limits.{MayStand}
use Rattle.offer_model.specs.LeafBounds.{is_priced, priced_limits}
use Rattle.offer_model.specs.Validity.{IsProblem}

-- What isn't denied to be at most something is.
pub le_stable : (a b : ℕ) → ((a ≤ b → ⊥) → ⊥) → a ≤ b
le_stable a b h = elim (cases_lt b a) [
  | inl l ↦ absurd (h (λ m. omega arith))
  | inr m ↦ m
]

-- Two products that aren't denied to stand together may.
pub MayStand-stable : (a b : Product) → ((MayStand a b → ⊥) → ⊥) → MayStand a b
MayStand-stable a b h = (λ e. h (λ m. m.0 e), λ l. le_stable a.price b.price (λ n. h (λ m. n (m.1 l))))

-- There are at most 1,024 limits that have a multiplier.
pub priced_limits-few : (p : ProblemData) → IsProblem p → length (priced_limits p) ≤ 1024
priced_limits-few p v = let some = length-filter is_priced p.limits in let all = count_by-le-length is_priced p.limits in let few = v.limits.few in omega arith

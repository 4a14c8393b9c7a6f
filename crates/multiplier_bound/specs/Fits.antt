-- Multipliers of a problem, and the prices that they move. Own.
use Rattle.std.specs.Prelude.{◌≡◌, ℕ, ◌^◌, ◌<◌, ◌≤◌, List, length}
use Rattle.std.specs.List.{All, AllByRecursion}
use Rattle.offer_model.specs.declared.node.Mark.{Mark}
use Rattle.offer_model.specs.declared.products.Limit.{Limit}
use Rattle.offer_model.specs.Problems.{ProblemData, product_count}
use Rattle.offer_model.specs.Ranges.{number_bound}
use Rattle.offer_model.specs.Validity.{IsProblem}
use Rattle.offer_model.specs.Prices.{Prices}
use Rattle.offer_model.specs.LeafBounds.{priced_limits, MultipliersFit, relaxed}
use Rattle.linear_weights.specs.Weights.{WeightsData, weight_at, prices_of, SumsFit}

-- The limits that have a multiplier, in file order, and for how many products there is room.
pub record MultipliersData : Type 0 where
  pub priced : List Limit
  pub products : ℕ

pub record HasLists (p : ProblemData) (s : MultipliersData) : Type 0 where
  pub priced : s.priced ≡ priced_limits p
  pub products : s.products ≡ product_count p

abbrev pub AreNumbers : List ℕ → Type 0
AreNumbers us = AllByRecursion (λ u. u ≤ number_bound) us

-- Multipliers of a problem, each as small as a line of a certificate can say.
pub record AreFit (p : ProblemData) (us : List ℕ) : Type 0 where
  pub valid : IsProblem p
  pub fit : MultipliersFit p us
  pub numbers : AreNumbers us

-- The list has the prices that the multipliers make of these, and what any node adds to its constant fits.
pub record IsRelaxed (p : ProblemData) (us : List ℕ) (at : Prices) (list : WeightsData) : Type 0 where
  pub each : length list.items ≡ product_count p
  pub price : (i : ℕ) → i < product_count p → weight_at list i ≡ (relaxed p us at).price i
  pub constant : list.constant ≡ (relaxed p us at).constant
  pub sums : (node : List Mark) → SumsFit p node (prices_of list)

-- The list has the prices that some multipliers make of these.
pub record Relaxes (p : ProblemData) (at : Prices) (list : WeightsData) : Type 0 where
  pub us : List ℕ
  pub fit : AreFit p us
  pub relaxed : IsRelaxed p us at list

-- Numbers that may be multipliers of whatever limits.
abbrev pub AreSmall : List ℕ → Type 0
AreSmall us = All (λ u. u ≤ 2 ^ 100) us

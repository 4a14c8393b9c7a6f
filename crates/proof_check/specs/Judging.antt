-- What leaves are judged by. Own.
use Rattle.std.specs.Prelude.{◌≡◌, ℕ, ◌≤◌, Bool, List, length}
use Rattle.offer_model.specs.Problems.{ProblemData, product_count, first_segment}
use Rattle.offer_model.specs.Revenue.{gain_of, weight_of, value_of}
use Rattle.offer_model.specs.declared.products.ModelName.TheVariants.{Mixed}
use Rattle.offer_model.specs.Validity.{IsProblem, IsRatioModel}
use Rattle.linear_step.specs.Weights.{WeightsData, AreWeights, AreAt}
use Rattle.proof_tree.specs.declared.either.EitherLeaves.{EitherLeaves}
use Rattle.proof_tree.specs.declared.either.EitherLeaves.TheVariants.{First, Second}
use Rattle.proof_check.specs.declared.leaf.Leaves.{Leaves}
use Rattle.proof_check.specs.Leaves.{HasRoom}

-- The weights are those at the revenue of x.
pub record AreOwnWeights (p : ProblemData) (x : List Bool) (weights : WeightsData) : Type 0 where
  pub small : AreWeights p weights
  pub own : AreAt p (gain_of p (first_segment p) x) (weight_of p (first_segment p) x) weights

-- What contracts see of the leaves.
pub record LeavesData : Type 0 where
  pub problem : ProblemData
  pub set : List Bool

-- What is seen of leaves of either kind.
abbrev pub data_of : EitherLeaves LeavesData LeavesData → LeavesData
data_of (First leaves) = leaves
data_of (Second leaves) = leaves

-- The number is what the assortment brings in all segments.
pub record IsMixed (p : ProblemData) (x : List Bool) (number : ℕ) : Type 0 where
  pub model : p.model ≡ Mixed
  pub each : length x ≡ product_count p
  pub value : number ≡ value_of p x

-- The weights are the assortment's own, and there is room for other weights and for each leaf.
pub record IsRatio (p : ProblemData) (x : List Bool) (weights : WeightsData) (leaves : Leaves) : Type 0 where
  pub model : IsRatioModel p.model
  pub valid : IsProblem p
  pub each : length x ≡ product_count p
  pub own : AreOwnWeights p x weights
  pub listed : product_count p ≤ weights.room
  pub room : HasRoom p leaves

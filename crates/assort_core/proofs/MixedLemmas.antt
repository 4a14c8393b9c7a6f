-- The top of the goal of mixed logit is the best assortment.
use Rattle.std.proofs.Common.{◌≡◌, ℕ, Bool, List, Some, None}
use Rattle.offer_model.specs.declared.products.ModelName.TheVariants.{Mixed}
use Rattle.offer_model.specs.Problems.{ProblemData}
use Rattle.offer_model.specs.Best.{IsBest}
use Rattle.tree_search.specs.Goals.{IsTop}
use Rattle.segment_bound.specs.Tangents.{tangent_rules}
use Rattle.segment_bound.proofs.GoalLemmas as goal

-- What is found is the best assortment, in whatever order nodes are divided: values and limits are those of mixed logit.
pub best_from_top : (p : ProblemData) (order : List ℕ) (x : List Bool) → p.model ≡ Mixed → IsTop (tangent_rules p order) (Some x) → IsBest p x
best_from_top p order x mixed top = goal.best_from_top p x mixed top

-- Something is found, since offering nothing is feasible.
pub some_top : (p : ProblemData) (order : List ℕ) → IsTop (tangent_rules p order) None → ⊥
some_top p order none = goal.some_top p none

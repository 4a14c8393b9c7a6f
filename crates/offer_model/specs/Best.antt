-- The best assortment. Own: the usual optimum, and one rule for ties.
use Rattle.std.specs.Prelude.{◌≢◌, Bool, List}
use Rattle.offer_model.specs.Assortments.{IsBefore}
use Rattle.offer_model.specs.Problems.{ProblemData}
use Rattle.offer_model.specs.Revenue.{EarnsMore}
use Rattle.offer_model.specs.Limits.{IsFeasible}

-- Feasible; no feasible assortment earns more; and before every other feasible one that earns as much.
pub record IsBest (p : ProblemData) (x : List Bool) : Type 0 where
  pub feasible : IsFeasible p x
  pub most : (y : List Bool) → IsFeasible p y → EarnsMore p y x → ⊥
  pub first : (y : List Bool) → IsFeasible p y → y ≢ x → (EarnsMore p x y → ⊥) → IsBefore x y

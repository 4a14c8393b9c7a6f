-- What the trials come to. Own.
use Rattle.std.specs.Prelude.{ℕ, Bool, List}
use Rattle.offer_model.specs.Problems.{ProblemData}
use Rattle.offer_model.specs.Revenue.{own_gain, own_weight, EarnsMore}
use Rattle.offer_model.specs.Limits.{IsFeasible}
use Rattle.linear_step.specs.Weights.{WeightsData, AreWeights, AreAt}

-- There are at most so many trials. What a trial's assortment weighs there, times its weight of choices and over the
-- trial's denominator, is at most gain_bound times weight_bound at first, falls to a fourth or less from trial to trial,
-- and is more than 1 over weight_bound while it is above 0. Fewer would do: 73 with 256 products, 75 with 512.
abbrev pub most_trials : ℕ
most_trials = 80

-- Feasible, and no feasible assortment earns more. Several may earn as much.
pub record EarnsMost (p : ProblemData) (x : List Bool) : Type 0 where
  pub feasible : IsFeasible p x
  pub most : (y : List Bool) → IsFeasible p y → EarnsMore p y x → ⊥

-- The weights are those at what the assortment earns.
pub record AreAtOwn (p : ProblemData) (x : List Bool) (w : WeightsData) : Type 0 where
  pub weights : AreWeights p w
  pub at : AreAt p (own_gain p x) (own_weight p x) w

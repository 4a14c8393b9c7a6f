-- Calls that were given to fail, by their numbers. Own.
use Rattle.std.specs.Prelude.{ℕ, Bool, List, [], ◌∷◌, ◌++◌, nat_eq}
use Rattle.std.specs.List.{list_any}
use Rattle.offer_io.specs.Causes.{next_count}

-- How many calls there were, and the numbers of those that fail. The first call has the number 1.
pub record CallPlan : Type 0 where
  pub calls : ℕ
  pub failing : List ℕ

-- No call was made, and none fails.
abbrev pub new_plan : CallPlan
new_plan = record { calls = 0; failing = [] }

-- The plan with one more call that fails.
abbrev pub plan_with : CallPlan → ℕ → CallPlan
plan_with plan call = record { calls = plan.calls; failing = plan.failing ++ call ∷ [] }

-- The plan after a call.
abbrev pub plan_after : CallPlan → CallPlan
plan_after plan = record { calls = next_count plan.calls; failing = plan.failing }

-- Whether the next call is one that fails.
abbrev pub fails_next : CallPlan → Bool
fails_next plan = list_any (λ call. nat_eq call (next_count plan.calls)) plan.failing

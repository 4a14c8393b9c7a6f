-- The command `eval`: what an assortment that is offered brings. Own.
use Rattle.std.specs.Prelude.{◌≡◌, ℕ, Option, Some, None}
use Rattle.offer_model.specs.Limits.{IsFeasible}
use Rattle.limit_rules.specs.Broken.{IsFirstBroken}
use Rattle.assort_words.specs.Asked.{RequestData}
use Rattle.eval_reports.specs.EvalReports.{eval_report}
use Rattle.assort_core.specs.Stages.{InputsData, asked_problem, offered}
use Rattle.assort_core.specs.Deeds.{Outcome, answer, no_output, Deed}

-- 0 where no limit is broken, else 1.
abbrev pub status_for : Option ℕ → ℕ
status_for None = 0
status_for (Some k) = 1

-- The report of what is offered is printed, with the first limit that it breaks.
abbrev pub IsEvaluated : RequestData → InputsData → Outcome → Type 0
IsEvaluated r i o = (broken : Option ℕ) × IsFirstBroken (asked_problem r i) (offered r) broken
    × (o ≡ answer (status_for broken) (eval_report i.rows i.segments (asked_problem r i) (offered r) broken))

-- 0 says that what is offered keeps to the limits.
abbrev pub eval_deed : RequestData → Deed
eval_deed r = record {
  IsDone = IsEvaluated r;
  output = no_output;
  IsClaimed = λ i. IsFeasible (asked_problem r i) (offered r);
}

-- What the program answers: a matter of the words and the files. Own.
use Rattle.std.specs.Prelude.{◌≡◌, ℕ, List, Some, None, Ok, Err, MatchResult}
use Rattle.catalogue_rows.specs.declared.faults.InputFault.TheVariants.{Fault, NoMemory}
use Rattle.assort_words.specs.declared.usage.Command.{Command}
use Rattle.assort_words.specs.declared.usage.Command.TheVariants.{Solve, Check, Eval, Trial}
use Rattle.assort_words.specs.Asked.{RequestData, asked_of}
use Rattle.assort_core.specs.Stages.{InputsData}
use Rattle.assort_core.specs.Judged.{Files, Given, judged}
use Rattle.assort_core.specs.Deeds.{Outcome, refusal, Output, Deed}
use Rattle.assort_core.specs.SolveOutcomes.{solve_deed}
use Rattle.assort_core.specs.CheckOutcomes.{check_deed}
use Rattle.assort_core.specs.EvalOutcomes.{eval_deed}
use Rattle.assort_core.specs.TrialOutcomes.{trial_deed}
use Rattle.assort_core.specs.Lines.{usage_line, fault_line}

-- What each command does. A further command is a further line.
abbrev pub deed_of : Command → RequestData → Deed
deed_of Solve r = solve_deed r
deed_of Check r = check_deed r
deed_of Eval r = eval_deed r
deed_of Trial r = trial_deed r

-- What comes of a request's command over what its files give.
abbrev pub IsDone : RequestData → InputsData → Outcome → Type 0
IsDone r i o = (deed_of r.command r).IsDone i o

-- The file that a request has written.
abbrev pub output_of : RequestData → Output
output_of r = (deed_of r.command r).output

-- What a status of 0 claims.
abbrev pub IsClaimed : RequestData → InputsData → Type 0
IsClaimed r i = (deed_of r.command r).IsClaimed i

-- What comes of a request whose files give this. Nothing comes of a file that isn't there: its read fails.
abbrev pub IsAnswerFrom : RequestData → Given → Outcome → Type 0
IsAnswerFrom r None o = ⊥
IsAnswerFrom r (Some (Err (Fault file row code))) o = o ≡ refusal 3 (fault_line file row code)
IsAnswerFrom r (Some (Err NoMemory)) o = ⊥
IsAnswerFrom r (Some (Ok i)) o = IsDone r i o

-- What comes of a request.
abbrev pub IsAnswerTo : RequestData → Files → Outcome → Type 0
IsAnswerTo r file o = IsAnswerFrom r (judged r file) o

-- What comes of these words over these files.
abbrev pub IsOutcome : List (List ℕ) → Files → Outcome → Type 0
IsOutcome words file o =
    MatchResult (asked_of words) (λ r. IsAnswerTo r file o) (λ fault. o ≡ refusal 2 (usage_line fault))

-- The command `trial`: the report of the best assortment of trial inputs, and their catalogue. Own.
use Rattle.std.specs.Prelude.{◌≡◌, ℕ, List}
use Rattle.offer_model.specs.Problems.{ProblemData}
use Rattle.catalogue_rows.specs.Plain.{plain_rows}
use Rattle.catalogue_rows.specs.PrintedProducts.{products_text}
use Rattle.catalogue_rows.specs.Rows.{RowData}
use Rattle.trial_inputs.specs.TrialInputs.{trial_margins, trial_problem}
use Rattle.assort_words.specs.Asked.{RequestData, asked_save}
use Rattle.assort_reports.specs.Reports.{trial_report}
use Rattle.assort_core.specs.declared.stop.OutputName.TheVariants as OutputName
use Rattle.assort_core.specs.Stages.{seed_of, count_of}
use Rattle.assort_core.specs.Lines.{unwritten_file_line}
use Rattle.assort_core.specs.Deeds.{Outcome, answer, Deed}
use Rattle.assort_core.specs.SolveOutcomes.{IsBestReport}

-- The catalogue and the problem that the seed and the number of products make.
abbrev pub trial_rows : RequestData → List RowData
trial_rows r = plain_rows (trial_margins (seed_of r) (count_of r))

abbrev pub asked_trial : RequestData → ProblemData
asked_trial r = trial_problem (seed_of r) (count_of r)

-- The report of the problem's best assortment is printed, after the seed and the number of products.
abbrev pub IsTried : RequestData → Outcome → Type 0
IsTried r o = (report : List ℕ) × IsBestReport (trial_rows r) (asked_trial r) report
    × (o ≡ answer 0 (trial_report (seed_of r) (count_of r) report))

abbrev pub trial_deed : RequestData → Deed
trial_deed r = record {
  IsDone = λ i. IsTried r;
  output = record { name = asked_save r; IsText = λ i text. text ≡ products_text (trial_rows r); line = unwritten_file_line OutputName.Catalogue };
  IsClaimed = λ i. Unit {0};
}

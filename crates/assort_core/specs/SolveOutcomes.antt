-- The command `solve`: the report of the best assortment, or of a chain's bounds, and its certificate. Own.
use Rattle.std.specs.Prelude.{◌≡◌, Bool, ℕ, List, IsTrue}
use Rattle.offer_model.specs.Best.{IsBest}
use Rattle.offer_model.specs.Chains.{ChainData}
use Rattle.offer_model.specs.Claims.{IsBracketed}
use Rattle.offer_model.specs.Problems.{ProblemData}
use Rattle.offer_model.specs.Stopping.{StoppingData, IsStopping}
use Rattle.offer_io.specs.Stores.{StoreView}
use Rattle.catalogue_rows.specs.Rows.{RowData}
use Rattle.assort_words.specs.Asked.{RequestData, asked_proof}
use Rattle.assort_reports.specs.Reports.{problem_report, chain_report}
use Rattle.assort_core.specs.declared.subject.Subject.{Subject}
use Rattle.assort_core.specs.declared.subject.Subject.TheVariants as S
use Rattle.assort_core.specs.Stages.{InputsData}
use Rattle.assort_core.specs.Subjects.{asked_subject}
use Rattle.assort_core.specs.Certificates.{certificate_of}
use Rattle.assort_core.specs.Judged.{Gives}
use Rattle.assort_core.specs.declared.stop.OutputName.TheVariants as OutputName
use Rattle.assort_core.specs.Lines.{unwritten_file_line}
use Rattle.assort_core.specs.Deeds.{Outcome, answer, Deed}

-- The report of the best assortment.
pub record IsBestReport (rows : List RowData) (p : ProblemData) (report : List ℕ) : Type 0 where
  pub best : List Bool
  pub is_best : IsBest p best
  pub report_is : report ≡ problem_report rows p best

-- The report of a chain's stopping set and its bounds: that set reaches the lower one, none exceeds the upper one, and they
-- are close together.
pub record IsBoundsReport (rows : List RowData) (c : ChainData) (report : List ℕ) : Type 0 where
  pub stopping : StoppingData
  pub is_stopping : IsStopping c stopping
  pub bounds : IsBracketed c stopping.set stopping.lo stopping.up
  pub report_is : report ≡ chain_report rows stopping

-- The report of a subject.
abbrev pub IsReport : Subject → List ℕ → Type 0
IsReport (S.Problem rows p) report = IsBestReport rows p report
IsReport (S.Chain rows c) report = IsBoundsReport rows c report

-- The subject is that of the request and of what its files give, and the report is the subject's.
pub record IsSolution (r : RequestData) (store : StoreView) (s : Subject) (report : List ℕ) : Type 0 where
  pub report_is : IsReport s report
  pub given : IsTrue store.tells → (i : InputsData) × Gives r store i × (s ≡ asked_subject r i)

-- Such a report is printed.
abbrev pub IsSolved : RequestData → InputsData → Outcome → Type 0
IsSolved r i o = (report : List ℕ) × IsReport (asked_subject r i) report × (o ≡ answer 0 report)

abbrev pub solve_deed : RequestData → Deed
solve_deed r = record {
  IsDone = IsSolved r;
  output = record { name = asked_proof r; IsText = λ i text. (certificate_of r i).Written text; line = unwritten_file_line OutputName.Proof };
  IsClaimed = λ i. Unit {0};
}

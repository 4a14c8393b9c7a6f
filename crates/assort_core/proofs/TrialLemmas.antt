-- What comes of trial inputs, which are read from no file, and which texts their catalogue's file may hold.
use Rattle.std.proofs.Common.{◌≡◌, ◌∙◌, sym, refl, subst, arith, ℕ, ◌+◌, ◌%◌, ◌≤◌, List, length, Some, Ok, All}
use Rattle.std.specs.List.{range_with_len}
use Rattle.std.specs.Prelude.{slice_index_or}
use Rattle.std.proofs.lemmas.List.{length-map}
use Rattle.std.proofs.lemmas.List.Elements.{All-map}
use Rattle.std.proofs.lemmas.List.FromFn.{length-map-range_with_len}
use Rattle.std.proofs.lemmas.Nat.{mod_below}
use Rattle.offer_io.specs.Stores.{StoreView}
use Rattle.catalogue_rows.specs.Plain.{plain_row, plain_rows}
use Rattle.catalogue_rows.specs.PrintedProducts.{products_text}
use Rattle.trial_inputs.specs.TrialInputs.{word_at, trial_margins, trial_product, trial_problem}
use Rattle.assort_words.specs.declared.usage.Command.{Command}
use Rattle.assort_words.specs.declared.usage.Command.TheVariants.{Trial}
use Rattle.assort_words.specs.Asked.{RequestData, asked_save}
use Rattle.assort_reports.specs.Reports.{trial_report}
use Rattle.assort_core.specs.declared.stop.OutputName.TheVariants as OutputName
use Rattle.assort_core.specs.declared.subject.Subject.{Subject}
use Rattle.assort_core.specs.declared.subject.Subject.TheVariants as S
use Rattle.assort_core.specs.Lines.{unwritten_file_line}
use Rattle.assort_core.specs.Stages.{no_inputs, NamesNoTable, seed_of, count_of}
use Rattle.assort_core.specs.Judged.{Files, judged}
use Rattle.assort_core.specs.Deeds.{answer}
use Rattle.assort_core.specs.Outcomes.{IsAnswerTo, deed_of, output_of}
use Rattle.assort_core.specs.Solutions.{HasRows, subject_of, rows_of}
use Rattle.assort_core.specs.declared.solved.Solved.{Solved}
use Rattle.assort_core.specs.declared.solved.Solved.TheVariants.{Best, Bounds}
use Rattle.assort_core.specs.SolveOutcomes.{IsReport}
use Rattle.assort_core.specs.Stops.{MayWrite}
use Rattle.assort_core.specs.TrialOutcomes.{trial_rows, asked_trial, IsTried}

-- No file is read, and no assortment is offered.
trial_gives : (r : RequestData) (file : Files) → r.command ≡ Trial → NamesNoTable r → judged r file ≡ Some (Ok no_inputs)
trial_gives r file trial none = rw (trial, none.products, none.limits, none.segments, none.arcs) refl

-- Its report is the answer.
pub trial_answer : (r : RequestData) (file : Files) (report : List ℕ) → r.command ≡ Trial → NamesNoTable r → IsTried r (answer 0 report)
    → IsAnswerTo r file (answer 0 report)
trial_answer r file report trial none tried =
    rw (trial_gives r file trial none) (subst (λ (c : Command). (deed_of c r).IsDone no_inputs (answer 0 report)) (sym trial) tried)

-- The output of such a request is its catalogue.
pub save_named : (r : RequestData) → r.command ≡ Trial → asked_save r ≡ (output_of r).name
save_named r trial = subst (λ (c : Command). asked_save r ≡ (deed_of c r).output.name) (sym trial) refl

-- The printed catalogue is its text.
pub may_save : (r : RequestData) (store : StoreView) (report catalogue : List ℕ) → r.command ≡ Trial → NamesNoTable r → IsTried r (answer 0 report)
    → catalogue ≡ products_text (trial_rows r) → MayWrite r store OutputName.Catalogue (λ text. text ≡ catalogue)
may_save r store report catalogue trial none tried is = record {
  line = subst (λ (c : Command). (deed_of c r).output.line ≡ unwritten_file_line OutputName.Catalogue) (sym trial) refl;
  texts = λ told. (no_inputs, trial_gives r store.file trial none, λ text e. subst (λ (c : Command). (deed_of c r).output.IsText no_inputs text) (sym trial) (e ∙ is));
  report = λ told. (report, trial_answer r store.file report trial none tried);
}

-- ---- The inputs.

-- Their margins are in range, and as many as are asked for.
pub margins_small : (seed count : ℕ) → All (λ margin. margin ≤ 1000000000) (trial_margins seed count)
margins_small seed count = All-map (λ margin. margin ≤ 1000000000) (λ i. 1 + word_at seed i % 1000) (range_with_len 0 count) (λ k d inside. small (word_at seed _))
  where
    small : (z : ℕ) → 1 + z % 1000 ≤ 1000000000
    small z = let below = mod_below z 1000 (omega arith) in omega (arith, below)

pub margins_few : (seed count : ℕ) → length (trial_margins seed count) ≡ count
margins_few seed count = length-map-range_with_len (λ i. 1 + word_at seed i % 1000) 0 count

-- The problem has a product of each.
pub trial_has_rows : (seed count : ℕ) → HasRows (S.Problem (plain_rows (trial_margins seed count)) (trial_problem seed count))
trial_has_rows seed count =
    length-map (trial_margins seed count) trial_product ∙ sym (plain_length (trial_margins seed count))
  where
    plain_length : (margins : List ℕ) → length (plain_rows margins) ≡ length margins
    plain_length margins = length-map-range_with_len (λ k. plain_row k (slice_index_or margins k 0)) 0 (length margins)

-- The subject of a seed and so many products is the task's.
pub subject_tried : (r : RequestData) (s : Subject) (seed count : ℕ) → seed ≡ seed_of r → count ≡ count_of r
    → s ≡ S.Problem (plain_rows (trial_margins seed count)) (trial_problem seed count) → s ≡ S.Problem (trial_rows r) (asked_trial r)
subject_tried r s seed count from size is = rw (from, size) at is

-- What was found for the trial problem is its report.
pub tried : (r : RequestData) (s : Subject) (seed count : ℕ) (report text : List ℕ) → seed ≡ seed_of r → count ≡ count_of r
    → s ≡ S.Problem (trial_rows r) (asked_trial r) → IsReport s report
    → text ≡ trial_report seed count report → IsTried r (answer 0 text)
tried r s seed count report text from size is reported e =
    (report, subst (λ (t : Subject). IsReport t report) is reported, rw (e, from, size) refl)

-- The catalogue of the trial problem's subject is the task's.
pub tried_rows : (r : RequestData) (s : Solved) → subject_of s ≡ S.Problem (trial_rows r) (asked_trial r) → rows_of s ≡ trial_rows r
tried_rows r (Best rows p best method) is = cc
tried_rows r (Bounds rows c stopping) is = cc

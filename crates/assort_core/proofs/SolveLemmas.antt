-- What comes of a request to solve, from what its parts do.
use Rattle.std.proofs.Common.{◌≡◌, sym, refl, ap, subst, ℕ, List, length, Some, Ok, IsTrue}
use Rattle.offer_io.specs.Stores.{StoreView, Passes}
use Rattle.assort_words.specs.declared.usage.Command.{Command}
use Rattle.assort_words.specs.declared.usage.Command.TheVariants.{Solve}
use Rattle.assort_words.specs.Asked.{RequestData, asked_proof}
use Rattle.assort_core.specs.declared.stop.OutputName.TheVariants as OutputName
use Rattle.assort_core.specs.Lines.{unwritten_file_line}
use Rattle.assort_core.specs.declared.subject.Subject.{Subject}
use Rattle.assort_core.specs.Stages.{InputsData, read_proof, proof_stage, no_inputs, stages, tables}
use Rattle.assort_core.specs.Judged.{Files, offered_by, offer_given, GivesBefore, Gives}
use Rattle.assort_core.specs.Deeds.{answer}
use Rattle.assort_core.specs.Outcomes.{IsAnswerTo, deed_of, output_of}
use Rattle.assort_core.specs.Subjects.{asked_subject, GivesSubject}
use Rattle.assort_core.specs.Certificates.{certificate_for}
use Rattle.assort_core.specs.SolveOutcomes.{IsReport, IsSolution}
use Rattle.assort_core.specs.Stops.{MayWrite}
use Rattle.assort_core.proofs.StageLemmas.{next_given, unasked_given}
use Rattle.assort_core.proofs.InputLemmas.{all_given, same_files, gives_later}

-- No proof is read, and no assortment is offered.
solve_gives : (r : RequestData) (store : StoreView) (i : InputsData) → r.command ≡ Solve → GivesBefore (length tables) r store i → Gives r store i
solve_gives r store i solve before =
    all_given r store.file i (next_given (stages r) (length tables) (proof_stage r) no_inputs i i store.file refl before
    (unasked_given (proof_stage r) i store.file (ap (λ (c : Command). read_proof c r) solve))) (unoffered r i solve)
  where
    unoffered : (r : RequestData) (i : InputsData) → r.command ≡ Solve → offer_given (offered_by r.command r) i ≡ Some (Ok i)
    unoffered r i solve = rw solve refl

-- What is found over the files that were read is a solution.
pub solution_found : (r : RequestData) (old mid : StoreView) (s : Subject) (report : List ℕ) → r.command ≡ Solve → Passes old mid
    → (IsTrue old.tells → GivesSubject r old s) → IsReport s report → IsSolution r mid s report
solution_found r old mid s report solve passes before is = record {
  report_is = is;
  given = λ told.
      let g = before (rw passes.stays.tells at told) in
      (g.0, solve_gives r mid g.0 solve (gives_later (length tables) r old mid g.0 passes (λ t. g.1) told), g.2);
}

-- The report of a solution is the answer.
solution_answers : (r : RequestData) (store : StoreView) (s : Subject) (report : List ℕ) → r.command ≡ Solve → IsSolution r store s report
    → IsTrue store.tells → IsAnswerTo r store.file (answer 0 report)
solution_answers r store s report solve h told =
    let g = h.given told in
    let P : Command → Type 0 = λ c. (deed_of c r).IsDone g.0 (answer 0 report) in
    rw g.1 (subst P (sym solve) (report, subst (λ (t : Subject). IsReport t report) g.2 h.report_is, refl))

-- So it is over the files before they were read.
pub solution_answer : (r : RequestData) (old mid : StoreView) (s : Subject) (report : List ℕ) → r.command ≡ Solve → Passes old mid
    → IsSolution r mid s report → IsTrue old.tells → IsAnswerTo r old.file (answer 0 report)
solution_answer r old mid s report solve passes h told =
    subst (λ (file : Files). IsAnswerTo r file (answer 0 report)) (same_files old mid passes told)
    (solution_answers r mid s report solve h (rw passes.stays.tells told))

-- The output of a request to solve is its proof.
pub proof_named : (r : RequestData) → r.command ≡ Solve → asked_proof r ≡ (output_of r).name
proof_named r solve = subst (λ (c : Command). asked_proof r ≡ (deed_of c r).output.name) (sym solve) refl

-- The certificates of a solution are texts of it.
pub may_certify : (r : RequestData) (store : StoreView) (s : Subject) (report : List ℕ) → r.command ≡ Solve → IsSolution r store s report
    → MayWrite r store OutputName.Proof (certificate_for s).Written
may_certify r store s report solve h = record {
  line = subst (λ (c : Command). (deed_of c r).output.line ≡ unwritten_file_line OutputName.Proof) (sym solve) refl;
  texts = λ told. let g = h.given told in (g.0, g.1, λ text written. is_output g.0 text g.2 written);
  report = λ told. (report, solution_answers r store s report solve h told);
}
  where
    is_output : (i : InputsData) (text : List ℕ) → s ≡ asked_subject r i → (certificate_for s).Written text → (output_of r).IsText i text
    is_output i text e written =
        subst (λ (c : Command). (deed_of c r).output.IsText i text) (sym solve)
        (subst (λ (t : Subject). (certificate_for t).Written text) e written)

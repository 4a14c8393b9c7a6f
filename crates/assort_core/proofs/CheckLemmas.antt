-- What `check` answers, and what it leaves: it asks for no output.
use Rattle.std.proofs.Common.{◌≡◌, ◌∙◌, ◌↔◌, if◌then◌else◌, sym, refl, ap, subst, ℕ, Bool, true, false, List, length, Some, None, Ok, IsTrue, inl, inr}
use Rattle.offer_model.specs.declared.products.ModelName.{ModelName}
use Rattle.offer_model.specs.declared.products.ModelName.TheVariants.{Logit, Attract, Mixed, Chain}
use Rattle.offer_io.specs.Stores.{StoreView, Passes}
use Rattle.catalogue_rows.specs.declared.faults.FileName.TheVariants.{Proof}
use Rattle.assort_core.specs.declared.stop.Stop.{Stop}
use Rattle.assort_words.specs.declared.usage.Command.{Command}
use Rattle.assort_words.specs.declared.usage.Command.TheVariants.{Check}
use Rattle.assort_words.specs.Asked.{RequestData, asked_proof}
use Rattle.assort_core.specs.declared.subject.Subject.{Subject}
use Rattle.assort_core.specs.Stages.{InputsData, model_asked, read_proof, proof_stage, most_proof, tables}
use Rattle.assort_core.specs.Subjects.{subject_under, asked_subject, GivesSubject}
use Rattle.assort_core.specs.Certificates.{Certificate, certificate_for, certificate_of}
use Rattle.assort_core.specs.Judged.{offered_by, offer_given, GivesBefore, Gives}
use Rattle.assort_core.specs.Deeds.{answer}
use Rattle.assort_core.specs.CheckOutcomes.{IsVerdict, accepted_report, rejected_report}
use Rattle.assort_core.specs.Verdicts.{HasVerdict}
use Rattle.assort_core.specs.Outcomes.{IsAnswerTo, deed_of}
use Rattle.assort_core.specs.Runs.{AsksFor, OutputStands, OutputIsSealed}
use Rattle.assort_core.specs.Stops.{WhyStopped, WhyUnloaded}
use Rattle.assort_core.proofs.InputLemmas.{all_given, gives_later, later_stop, stage_read, stage_unloaded}
use Rattle.assort_core.proofs.PieceLemmas.{both}

asks_none : (r : RequestData) (name : List ℕ) → r.command ≡ Check → AsksFor r name → ⊥
asks_none r name check asks =
    let e : None ≡ Some name = subst (λ (c : Command). (deed_of c r).output.name ≡ Some name) check asks in cc

pub check_output : (r : RequestData) (old new : StoreView) → r.command ≡ Check → OutputStands r old new
check_output r old new check = λ told name asks. absurd (asks_none r name check asks)

pub check_sealed : (r : RequestData) (new : StoreView) → r.command ≡ Check → OutputIsSealed r new
check_sealed r new check = λ name asks. absurd (asks_none r name check asks)

-- the proof that is read
proof_named : (r : RequestData) (name : List ℕ) → r.command ≡ Check → asked_proof r ≡ Some name → (proof_stage r).name ≡ Some name
proof_named r name check proof = ap (λ (c : Command). read_proof c r) check ∙ proof

verdict_of : (b : Bool) (c : Certificate) (text report : List ℕ) (status : ℕ) → (IsTrue b ↔ c.Accepted text)
    → status ≡ (if b then 0 else 1) → report ≡ (if b then accepted_report else rejected_report) → IsVerdict c text (answer status report)
verdict_of true c text report status told s e = inl (told.0 refl, rw (s, e) refl)
verdict_of false c text report status told s e = inr (λ a. let f : IsTrue false = told.1 a in cc, rw (s, e) refl)

-- no assortment is offered
check_unoffered : (r : RequestData) (i : InputsData) → r.command ≡ Check → offer_given (offered_by r.command r) i ≡ Some (Ok i)
check_unoffered r i check = rw check refl

-- the subject is that of the tables, whatever the proof
same_subject : (m : ModelName) (r : RequestData) (i : InputsData) (text : List ℕ) (P : Subject → Type 0)
    → P (subject_under m r i) → P (subject_under m r (record i { proof = text }))
same_subject Logit r i text P p = p
same_subject Attract r i text P p = p
same_subject Mixed r i text P p = p
same_subject Chain r i text P p = p

-- the verdict over the files that a store tells
pub check_answer : (r : RequestData) (old mid : StoreView) (s : Subject) (name report : List ℕ) (Waits : List ℕ → Type 0) (b : Bool) (status : ℕ)
    → r.command ≡ Check → asked_proof r ≡ Some name → Passes old mid → (IsTrue old.tells → GivesSubject r old s)
    → ((text : List ℕ) → Waits text ↔ (certificate_for s).Accepted text) → HasVerdict Waits mid name most_proof b
    → status ≡ (if b then 0 else 1) → report ≡ (if b then accepted_report else rejected_report)
    → IsTrue old.tells → IsAnswerTo r old.file (answer status report)
check_answer r old mid s name report Waits b status check proof passes before checks says e f told =
    let g = before told in
    by_given g.0 g.1 g.2
  where
    text : List ℕ
    text = says.text

    named : old.file name ≡ Some text
    named = ap (λ (f : List ℕ → _). f name) (sym (passes.files told).file) ∙ says.content (rw passes.stays.tells told)

    by_given : (i : InputsData) → GivesBefore (length tables) r old i → s ≡ asked_subject r i → IsAnswerTo r old.file (answer status report)
    by_given i there is =
        let read : InputsData = record i { proof = text } in
        let all : Gives r old read = all_given r old.file read
        (stage_read (length tables) (proof_stage r) r old i read name text refl (proof_named r name check proof) there named says.fits refl) (check_unoffered r read check) in
        let accepted : IsTrue b ↔ (certificate_for (asked_subject r i)).Accepted text = subst (λ (t : Subject). IsTrue b ↔ (certificate_for t).Accepted text) is (both says.verdict (checks text)) in
        let said : IsVerdict (certificate_of r read) text (answer status report) = verdict_of b (certificate_of r read) text report status
        (same_subject (model_asked r) r i text (λ t. IsTrue b ↔ (certificate_for t).Accepted text) accepted) e f in
        rw all (subst (λ (c : Command). (deed_of c r).IsDone read (answer status report)) (sym check) said)

-- Why a proof isn't read to its end is why there is no report.
pub proof_unread : (stop : Stop) (r : RequestData) (old mid new : StoreView) (s : Subject) (name : List ℕ)
    → r.command ≡ Check → asked_proof r ≡ Some name → Passes old mid → (IsTrue old.tells → GivesSubject r old s)
    → WhyUnloaded Proof name most_proof mid new stop → WhyStopped r old new stop
proof_unread stop r old mid new s name check proof passes before why =
    later_stop stop r old mid new passes
    (stage_unloaded stop (length tables) (proof_stage r) r mid new name refl (proof_named r name check proof)
    (λ told. let g = before (rw passes.stays.tells at told) in (g.0, gives_later (length tables) r old mid g.0 passes (λ t. g.1) told)) why)

-- What a run does, from what its parts do.
use Rattle.std.proofs.Common.{◌≡◌, ◌∙◌, sym, refl, ap, arith, ℕ, ◌<◌, List, [], ◌++◌, length, Option, Some, None, Result, Ok, Err, IsTrue, inl, inr}
use Rattle.std.proofs.lemmas.List.{append-nil, take_all}
use Rattle.limit_rules.specs.Broken.{IsFirstBroken}
use Rattle.offer_model.specs.Limits.{IsFeasible}
use Rattle.offer_io.specs.Causes.{Rose}
use Rattle.offer_io.specs.Stores.{StoreView}
use Rattle.offer_io.specs.Sinks.{SinkView, Writes}
use Rattle.catalogue_rows.specs.declared.faults.InputFault.TheVariants.{Fault}
use Rattle.catalogue_rows.specs.declared.faults.InputFault.TheVariants as fault
use Rattle.proof_lines.proofs.AcceptedIsBest.{accepted_is_best}
use Rattle.proof_lines.proofs.AcceptedIsBracketed.{accepted_is_bracketed}
use Rattle.assort_core.specs.declared.stop.Stop.{Stop}
use Rattle.assort_core.specs.declared.stop.Stop.TheVariants.{Unread, Faulty, Unwritten, NoMemory}
use Rattle.assort_words.specs.declared.usage.Command.{Command}
use Rattle.assort_words.specs.declared.usage.Command.TheVariants.{Solve, Check, Eval, Trial}
use Rattle.assort_words.specs.declared.usage.UsageFault.{UsageFault}
use Rattle.assort_words.specs.Asked.{RequestData, asked_of}
use Rattle.assort_core.specs.Lines.{usage_line, unwritten_line}
use Rattle.assort_core.specs.declared.subject.Subject.{Subject}
use Rattle.assort_core.specs.declared.subject.Subject.TheVariants as S
use Rattle.assort_core.specs.Stages.{InputsData, asked_problem, offered}
use Rattle.assort_core.specs.Subjects.{asked_subject}
use Rattle.assort_core.specs.Certificates.{certificate_for}
use Rattle.assort_core.specs.Judged.{Files, Given, judged}
use Rattle.assort_core.specs.Deeds.{Outcome, answer, refusal}
use Rattle.assort_core.specs.EvalOutcomes.{status_for}
use Rattle.assort_core.specs.Outcomes.{IsOutcome, IsAnswerTo, IsAnswerFrom, deed_of}
use Rattle.assort_core.specs.Runs.{Says, Prints, FailsToPrint, Performs, StoreFails, OutFails, IsAnswerable, HoldsInputs, ClaimHolds, OutputStands, OutputIsSealed, OutputMayStand}
use Rattle.assort_core.specs.Stops.{WhyStopped, status_of, stop_line}

-- a write says a line
pub said : {T E : Type 0} (old : SinkView) (line : List ℕ) (r : Result T E) (new : SinkView) → Writes old line r new → Says old line new
said old line (Ok t) new w = record {
  whole = λ told calm. w.whole told;
  part = λ told. (length line, w.whole told ∙ ap (λ t. old.bytes ++ t) (sym (take_all (length line) line (omega arith))));
  later = w.cause.later;
  tells = w.tells;
}
said old line (Err e) new w = record {
  whole = λ told calm. absurd (calm w.cause.failed);
  part = λ told. w.part told;
  later = w.cause.later;
  tells = w.tells;
}

says_nothing : (view : SinkView) → Says view [] view
says_nothing view = record {
  whole = λ told calm. sym (append-nil view.bytes);
  part = λ told. (0, sym (append-nil view.bytes));
  later = omega arith;
  tells = refl;
}

prints_nothing : (view : SinkView) → Prints view [] view
prints_nothing view = record { whole = λ told. sym (append-nil view.bytes); later = omega arith; tells = refl }

-- words that are refused
refused_outcome : (words : List (List ℕ)) (file : Files) (fault : UsageFault) → asked_of words ≡ Err fault
    → IsOutcome words file (refusal 2 (usage_line fault))
refused_outcome words file fault asked = rw asked refl

pub performs_refusal : (words : List (List ℕ)) (store : StoreView) (fault : UsageFault) (out err err' : SinkView) → asked_of words ≡ Err fault
    → Says err (usage_line fault) err' → Performs words store 2 out out err err'
performs_refusal words store fault out err err' asked says = record {
  outcome = refusal 2 (usage_line fault);
  is_outcome = refused_outcome words store.file fault asked;
  status_is = refl;
  prints = prints_nothing out;
  says = says;
}

-- a request's outcome is its answer
pub asked_outcome : (words : List (List ℕ)) (file : Files) (r : RequestData) (o : Outcome) → asked_of words ≡ Ok r
    → IsAnswerTo r file o → IsOutcome words file o
asked_outcome words file r o asked answers = rw asked answers

pub performs_answer : (words : List (List ℕ)) (store : StoreView) (r : RequestData) (status : ℕ) (report : List ℕ) (out out' err : SinkView)
    → asked_of words ≡ Ok r → IsAnswerTo r store.file (answer status report) → Prints out report out' → Performs words store status out out' err err
performs_answer words store r status report out out' err asked answers prints = record {
  outcome = answer status report;
  is_outcome = asked_outcome words store.file r (answer status report) asked answers;
  status_is = refl;
  prints = prints;
  says = says_nothing err;
}

stopped_three : (words : List (List ℕ)) (store : StoreView) (r : RequestData) (line : List ℕ) (out err err' : SinkView) → asked_of words ≡ Ok r
    → IsAnswerTo r store.file (refusal 3 line) → Says err line err' → Performs words store 3 out out err err'
stopped_three words store r line out err err' asked answers says = record {
  outcome = refusal 3 line;
  is_outcome = asked_outcome words store.file r (refusal 3 line) asked answers;
  status_is = refl;
  prints = prints_nothing out;
  says = says;
}

pub performs_stop : (stop : Stop) (words : List (List ℕ)) (store store' : StoreView) (r : RequestData) (out err err' : SinkView) → asked_of words ≡ Ok r
    → status_of stop < 4 → IsTrue store.tells → WhyStopped r store store' stop → Says err (stop_line stop) err'
    → Performs words store (status_of stop) out out err err'
performs_stop (Unread file) words store store' r out err err' asked small told why says = absurd (omega arith)
performs_stop (Unwritten file) words store store' r out err err' asked small told why says = absurd (omega arith)
performs_stop NoMemory words store store' r out err err' asked small told why says = absurd (omega arith)
performs_stop (Faulty file row code) words store store' r out err err' asked small told why says = stopped_three words store r _ out err err' asked (why told) says

-- why a store's failure ends a run
pub store_fails : (stop : Stop) (r : RequestData) (store store' : StoreView) (out err err' : SinkView) → status_of stop ≡ 4
    → WhyStopped r store store' stop → OutputMayStand r store store' → Says err (stop_line stop) err' → StoreFails r store store' out out err err'
store_fails (Unread file) r store store' out err err' four why may says = record { why = inl (file, why, says); proof = may; silent = refl }
store_fails (Unwritten file) r store store' out err err' four why may says = record { why = inr (why.0, rw why.1 says); proof = may; silent = refl }
store_fails (Faulty file row code) r store store' out err err' four why may says = absurd (omega arith)
store_fails NoMemory r store store' out err err' four why may says = absurd (omega arith)

-- a steady store that holds the inputs ends none
pub steady_store : (stop : Stop) (r : RequestData) (store store' : StoreView) → status_of stop ≡ 4 → WhyStopped r store store' stop
    → IsTrue store.steady → HoldsInputs r store → ⊥
steady_store (Unread file) r store store' four why steady holds =
    why.fails.2.unheld steady (holds why.k why.stage why.fails.0 why.stage_is why.fails.1)
steady_store (Unwritten file) r store store' four why steady holds = why.0.unsteady steady
steady_store (Faulty file row code) r store store' four why steady holds = absurd (omega arith)
steady_store NoMemory r store store' four why steady holds = absurd (omega arith)

-- a status below 4 is that of a fault
pub below_four : (stop : Stop) → status_of stop < 4 → status_of stop ≡ 3
below_four (Faulty file row code) small = refl
below_four (Unread file) small = absurd (omega arith)
below_four (Unwritten file) small = absurd (omega arith)
below_four NoMemory small = absurd (omega arith)

-- the cause of a store's failure
pub store_rose : (stop : Stop) (r : RequestData) (store store' : StoreView) → status_of stop ≡ 4 → WhyStopped r store store' stop
    → Rose store.faults store'.faults
store_rose (Unread file) r store store' four why = why.fails.2.cause
store_rose (Unwritten file) r store store' four why = why.0.cause
store_rose (Faulty file row code) r store store' four why = absurd (omega arith)
store_rose NoMemory r store store' four why = absurd (omega arith)

status_below_two : (broken : Option ℕ) → status_for broken < 2
status_below_two None = omega arith
status_below_two (Some k) = omega arith

-- an answerable request isn't refused
done_below_two : (c : Command) (r : RequestData) (i : InputsData) (o : Outcome) → (deed_of c r).IsDone i o → o.status < 2
done_below_two Solve r i o done = rw done.2 (omega arith)
done_below_two Check r i o (inl h) = rw h.1 (omega arith)
done_below_two Check r i o (inr h) = rw h.1 (omega arith)
done_below_two Eval r i o done = rw done.2 (status_below_two done.0)
done_below_two Trial r i o done = rw done.2 (omega arith)

pub answer_below_two : (r : RequestData) (store : StoreView) (o : Outcome) → IsAnswerable r store → IsAnswerTo r store.file o → o.status < 2
answer_below_two r store o can answers = done_below_two r.command r can.given.0 o (rw can.given.1 at answers)

pub stopped_five : (stop : Stop) (r : RequestData) (store store' : StoreView) → WhyStopped r store store' stop → IsAnswerable r store
    → (Rose store.faults store'.faults → ⊥) → status_of stop ≡ 5
stopped_five (Unread file) r store store' why can calm = absurd (calm why.fails.2.cause)
stopped_five (Unwritten file) r store store' why can calm = absurd (calm why.0.cause)
stopped_five (Faulty file row code) r store store' why can calm = absurd (omega (arith, answer_below_two r store (refusal 3 _) can (why can.tells)))
stopped_five NoMemory r store store' why can calm = refl

-- What an accepted certificate claims is so.
claimed : (s : Subject) (text : List ℕ) → (certificate_for s).Accepted text → (certificate_for s).Claimed text
claimed (S.Problem rows p) text h = (h.0, h.1, h.2, accepted_is_best p text h.0 h.1 h.2)
claimed (S.Chain rows c) text h = (h.0, h.1, accepted_is_bracketed c text h.0 h.1)

-- 0 of a command
done_claims : (c : Command) (r : RequestData) (i : InputsData) (report : List ℕ) → (deed_of c r).IsDone i (answer 0 report) → (deed_of c r).IsClaimed i
done_claims Solve r i report done = tt
done_claims Check r i report (inl h) = claimed (asked_subject r i) i.proof h.0
done_claims Check r i report (inr h) = let n : 0 ≡ 1 = ap (λ (o : Outcome). o.status) h.1 in absurd (omega (arith, n))
done_claims Eval r i report done = unbroken done.0 done.1 (ap (λ (o : Outcome). o.status) done.2)
  where
    unbroken : (broken : Option ℕ) → IsFirstBroken (asked_problem r i) (offered r) broken → 0 ≡ status_for broken → IsFeasible (asked_problem r i) (offered r)
    unbroken None feasible e = feasible
    unbroken (Some k) first e = absurd (omega (arith, e))
done_claims Trial r i report done = tt

pub claim_holds : (r : RequestData) (store : StoreView) (report : List ℕ) → IsAnswerTo r store.file (answer 0 report) → ClaimHolds r store
claim_holds r store report answers = by_given (judged r store.file) refl answers
  where
    by_given : (given : Given) → judged r store.file ≡ given → IsAnswerFrom r given (answer 0 report) → ClaimHolds r store
    by_given None e answers = absurd answers
    by_given (Some (Err (Fault file row code))) e answers = let n : 0 ≡ 3 = ap (λ (o : Outcome). o.status) answers in absurd (omega (arith, n))
    by_given (Some (Err fault.NoMemory)) e answers = absurd answers
    by_given (Some (Ok i)) e answers = (i, e, done_claims r.command r i report answers)

-- a report that can't be printed
pub out_fails : (words : List (List ℕ)) (store store' : StoreView) (r : RequestData) (status : ℕ) (report : List ℕ) (out out' err err' : SinkView) → asked_of words ≡ Ok r
    → (IsTrue store.tells → IsAnswerTo r store.file (answer status report)) → FailsToPrint out report out' → Says err unwritten_line err'
    → OutputStands r store store' → OutputIsSealed r store' → OutFails words r store store' out out' err err'
out_fails words store store' r status report out out' err err' asked answers fails says proof sealed = record {
  status = status;
  report = report;
  fails = fails;
  is_outcome = λ told. asked_outcome words store.file r (answer status report) asked (answers told);
  says = says;
  proof = proof;
  sealed = sealed;
}

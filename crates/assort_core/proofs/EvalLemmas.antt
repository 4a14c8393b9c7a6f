-- What comes of an assortment that is offered, and what `eval` leaves: it asks for no output.
use Rattle.std.proofs.Common.{◌≡◌, ◌∙◌, sym, refl, ap, subst, arith, ℕ, ◌+◌, ◌<◌, Bool, true, false, List, [], ◌∷◌, ◌++◌, length, take, map, nat_eq, Option, Some, None, Ok}
use Rattle.std.proofs.lemmas.Bool.Decides.{nat_tests}
use Rattle.std.specs.Prelude.{slice_set, slice_index_or}
use Rattle.std.proofs.lemmas.List.{length-map, get_or-map, take_more, take_more_set}
use Rattle.offer_model.specs.Problems.{ProblemData, product_count}
use Rattle.offer_io.specs.Stores.{StoreView}
use Rattle.limit_rules.specs.Broken.{IsFirstBroken}
use Rattle.eval_reports.specs.EvalReports.{HoldsSegments, IsEvalReport}
use Rattle.eval_reports.proofs.CallerLemmas.{IsFirstBroken-same}
use Rattle.catalogue_rows.specs.Rows.{RowData}
use Rattle.catalogue.specs.SegmentTables.{NamedSegment}
use Rattle.catalogue_rows.specs.declared.faults.Code.TheVariants.{WrongLength}
use Rattle.catalogue_rows.specs.declared.faults.FileName.TheVariants.{Arcs, Offer}
use Rattle.assort_words.specs.declared.usage.Command.{Command}
use Rattle.assort_words.specs.declared.usage.Command.TheVariants.{Eval}
use Rattle.assort_words.specs.Asked.{RequestData, asked_arcs, asked_offer}
use Rattle.assort_words.specs.Offers.{offered_of}
use Rattle.assort_core.specs.Lines.{fault_line}
use Rattle.assort_core.specs.Stages.{InputsData, no_inputs, problem_tables, tables, table_stage, proof_stage, read_proof, stages, asked_problem, offered}
use Rattle.assort_core.specs.Judged.{given_by, offered_by, offer_given, judged, GivesBefore}
use Rattle.assort_core.specs.Deeds.{Outcome, answer, refusal}
use Rattle.assort_core.specs.EvalOutcomes.{status_for, IsEvaluated}
use Rattle.assort_core.specs.Outcomes.{IsAnswerTo, deed_of}
use Rattle.assort_core.specs.Runs.{AsksFor, OutputStands, OutputIsSealed}
use Rattle.assort_core.proofs.InputLemmas.{all_given, judged_answer, stage_unasked}

asks_none : (r : RequestData) (name : List ℕ) → r.command ≡ Eval → AsksFor r name → ⊥
asks_none r name eval asks =
    let e : None ≡ Some name = subst (λ (c : Command). (deed_of c r).output.name ≡ Some name) eval asks in cc

pub eval_output : (r : RequestData) (old new : StoreView) → r.command ≡ Eval → OutputStands r old new
eval_output r old new eval = λ told name asks. absurd (asks_none r name eval asks)

pub eval_sealed : (r : RequestData) (new : StoreView) → r.command ≡ Eval → OutputIsSealed r new
eval_sealed r new eval = λ name asks. absurd (asks_none r name eval asks)

-- The word that is given is the one that is judged.
pub offer_asked : (r : RequestData) (word : List ℕ) → asked_offer r ≡ Some word → offered_of word ≡ offered r
offer_asked r word is = rw is refl

-- Neither arcs nor a proof are read after the tables of a problem.
all_tables : (r : RequestData) (old : StoreView) (i : InputsData) → r.command ≡ Eval → asked_arcs r ≡ None → GivesBefore (length problem_tables) r old i
    → given_by (stages r) no_inputs old.file ≡ Some (Ok i)
all_tables r old i eval arcs before =
    stage_unasked (length tables) (proof_stage r) r old i refl (ap (λ (c : Command). read_proof c r) eval)
    (stage_unasked (length problem_tables) (table_stage r Arcs) r old i refl arcs before)

-- What is offered is judged.
judges : (r : RequestData) (i : InputsData) → r.command ≡ Eval → offered_by r.command r ≡ Some (offered r)
judges r i eval = rw eval refl

same_length : (n m : ℕ) → n ≡ m → nat_eq n m ≡ true
same_length n m e = grind (arith, nat_tests)

other_length : (n m : ℕ) → (n ≡ m → ⊥) → nat_eq n m ≡ false
other_length n m differs = grind (arith, nat_tests)

-- Its report is the answer, where it is as long as the catalogue.
pub eval_answer : (r : RequestData) (old : StoreView) (i : InputsData) (o : Outcome) → r.command ≡ Eval → asked_arcs r ≡ None
    → GivesBefore (length problem_tables) r old i → length (offered r) ≡ length i.rows → IsEvaluated r i o → IsAnswerTo r old.file o
eval_answer r old i o eval arcs before long done =
    let fits : offer_given (offered_by r.command r) i ≡ Some (Ok i) = rw (judges r i eval, same_length (length (offered r)) (length i.rows) long) refl in
    rw (all_given r old.file i (all_tables r old i eval arcs before) fits) (subst (λ (c : Command). (deed_of c r).IsDone i o) (sym eval) done)

-- Another length is refused.
pub eval_refused : (r : RequestData) (old : StoreView) (i : InputsData) → r.command ≡ Eval → asked_arcs r ≡ None
    → GivesBefore (length problem_tables) r old i → (length (offered r) ≡ length i.rows → ⊥) → IsAnswerTo r old.file (refusal 3 (fault_line Offer 0 WrongLength))
eval_refused r old i eval arcs before differs =
    let all = all_tables r old i eval arcs before in
    let word = judges r i eval in
    let short = other_length (length (offered r)) (length i.rows) differs in
    judged_answer r old.file Offer 0 WrongLength (rw (all, word, short) refl)

-- ---- The word.

flipped : (n m : ℕ) → nat_eq n m ≡ nat_eq m n
flipped n m = grind (arith, nat_tests)

-- One more digit of it was read.
pub marks_more : (digits : List ℕ) (marks : List Bool) (i : ℕ) → i < length digits → length marks ≡ length digits
    → take i marks ≡ take i (map (nat_eq 49) digits)
    → take (i + 1) (slice_set marks i (nat_eq (slice_index_or digits i 0) 49)) ≡ take (i + 1) (map (nat_eq 49) digits)
marks_more digits marks i inside long was =
    let all = length-map digits (nat_eq 49) in
    take_more_set marks i (nat_eq (slice_index_or digits i 0) 49) (omega (arith, long, inside))
    ∙ ap (λ z. z ++ nat_eq (slice_index_or digits i 0) 49 ∷ []) was
    ∙ ap (λ b. take i (map (nat_eq 49) digits) ++ b ∷ []) (flipped (slice_index_or digits i 0) 49 ∙ sym (get_or-map (nat_eq 49) digits i 0 false inside))
    ∙ sym (take_more (map (nat_eq 49) digits) i false (omega (arith, all, inside)))

-- ---- The report.

-- The problem has the products of its catalogue.
problem_rows : (r : RequestData) (i : InputsData) → product_count (asked_problem r i) ≡ length i.rows
problem_rows r i = length-map i.rows (λ row. row.product)

pub problem_as_long : (r : RequestData) (i : InputsData) (rows : List RowData) (p : ProblemData) → rows ≡ i.rows → p ≡ asked_problem r i
    → product_count p ≡ length rows
problem_as_long r i rows p e is = rw (e, is) (problem_rows r i)

-- Its segments are those that are named.
problem_segments : (r : RequestData) (i : InputsData) → HoldsSegments i.segments (asked_problem r i)
problem_segments r i = λ mixed. rw mixed refl

pub problem_named : (r : RequestData) (i : InputsData) (segments : List NamedSegment) (p : ProblemData) → segments ≡ i.segments → p ≡ asked_problem r i
    → HoldsSegments segments p
problem_named r i segments p e is = rw (e, is) (problem_segments r i)

-- The status is that of the limit that the report names.
evaluated : (r : RequestData) (i : InputsData) (broken : Option ℕ) (status : ℕ) (report : List ℕ)
    → IsFirstBroken (asked_problem r i) (offered r) broken → status ≡ status_for broken → IsEvalReport i.rows i.segments (asked_problem r i) (offered r) report
    → IsEvaluated r i (answer status report)
evaluated r i broken status report first by reported =
    let same : reported.0 ≡ broken = IsFirstBroken-same (asked_problem r i) (offered r) reported.0 broken reported.1 first in
    (broken, first, rw (by, reported.2, same) refl)

pub evaluated_from : (r : RequestData) (i : InputsData) (rows : List RowData) (segments : List NamedSegment) (p : ProblemData) (x : List Bool) (broken : Option ℕ)
    (status : ℕ) (report : List ℕ) → rows ≡ i.rows → segments ≡ i.segments → p ≡ asked_problem r i → x ≡ offered r
    → IsFirstBroken p x broken → status ≡ status_for broken → IsEvalReport rows segments p x report → IsEvaluated r i (answer status report)
evaluated_from r i rows segments p x broken status report e f is y first by reported =
    evaluated r i broken status report (rw (is, y) at first) by (rw (e, f, is, y) at reported)

-- Why a stage stops a run, and what the stages of a request give, from what was loaded and read.
use Rattle.std.proofs.Common.{◌≡◌, ◌∙◌, arith, subst, sym, refl, ap, suc, ℕ, ◌≤◌, List, length, take, Some, None, Result, Ok, Err, IsTrue}
use Rattle.std.specs.Prelude.{Contains, slice_get}
use Rattle.catalogue_rows.specs.declared.faults.Code.{Code}
use Rattle.catalogue_rows.specs.declared.faults.FileName.{FileName}
use Rattle.catalogue_rows.specs.declared.faults.InputFault.{InputFault}
use Rattle.catalogue_rows.specs.declared.faults.InputFault.TheVariants.{Fault}
use Rattle.catalogue_rows.specs.declared.faults.InputFault.TheVariants as fault
use Rattle.catalogue_rows.specs.Faults.{OnFault}
use Rattle.offer_io.specs.Causes.{Rose}
use Rattle.offer_io.specs.Stores.{StoreView, Passes}
use Rattle.assort_words.specs.Asked.{RequestData}
use Rattle.assort_core.specs.declared.stop.Stop.{Stop}
use Rattle.assort_core.specs.declared.stop.Stop.TheVariants.{Unread, Faulty, Unwritten, NoMemory}
use Rattle.assort_core.specs.Lines.{fault_line}
use Rattle.assort_core.specs.Stages.{InputsData, no_inputs, Stage, stages, with_part}
use Rattle.assort_core.specs.Judged.{Files, given_by, offered_by, offer_given, judged, GivesBefore}
use Rattle.assort_core.specs.Deeds.{answer, refusal}
use Rattle.assort_core.specs.Outcomes.{IsAnswerTo}
use Rattle.assort_core.specs.Runs.{CannotRead, FilesStand}
use Rattle.assort_core.specs.Stops.{WhyStopped, WhyUnloaded, stop_by}
use Rattle.assort_core.proofs.StageLemmas.{unasked_given, loaded_given, large_given, next_given, fault_given}

-- What all files give is what is judged, where no assortment is offered that has another length.
pub all_given : (r : RequestData) (file : Files) (i : InputsData) → given_by (stages r) no_inputs file ≡ Some (Ok i)
    → offer_given (offered_by r.command r) i ≡ Some (Ok i) → judged r file ≡ Some (Ok i)
all_given r file i files offer = rw (files, offer) refl

-- A fault that is judged is the answer.
pub judged_answer : (r : RequestData) (file : Files) (f : FileName) (row : ℕ) (code : Code) → judged r file ≡ Some (Err (Fault f row code))
    → IsAnswerTo r file (refusal 3 (fault_line f row code))
judged_answer r file f row code e = rw e refl

-- A fault among the files is.
faulty_answer : (r : RequestData) (file : Files) (f : FileName) (row : ℕ) (code : Code) → given_by (stages r) no_inputs file ≡ Some (Err (Fault f row code))
    → IsAnswerTo r file (refusal 3 (fault_line f row code))
faulty_answer r file f row code e = judged_answer r file f row code (rw e refl)

-- Why the file of stage k isn't loaded is why there is no report.
pub stage_unloaded : (stop : Stop) (k : ℕ) (s : Stage) (r : RequestData) (old new : StoreView) (name : List ℕ)
    → slice_get (stages r) k ≡ Some s → s.name ≡ Some name → (IsTrue old.tells → (i : InputsData) × GivesBefore k r old i)
    → WhyUnloaded s.file name s.most old new stop → WhyStopped r old new stop
stage_unloaded (Unread file) k s r old new name at named before why = record {
  k = k;
  stage = s;
  stage_is = at;
  file_is = sym why.0;
  fails = (name, named, why.1);
  before = before;
}
stage_unloaded (Faulty file row code) k s r old new name at named before why = λ told.
    let large = why.3 told in
    let there = before told in
    rw (why.0, why.1, why.2) (faulty_answer r old.file s.file 0 _
    (fault_given (stages r) k s no_inputs there.0 (Fault s.file 0 _) old.file at there.1 (large_given s there.0 old.file name large.0 named large.1 large.2)))
stage_unloaded (Unwritten file) k s r old new name at named before why = absurd why
stage_unloaded NoMemory k s r old new name at named before why = tt

-- A fault of the bytes of stage k is why there is no report.
pub stage_refused : (e : InputFault) (k : ℕ) (s : Stage) (r : RequestData) (old new : StoreView) (i : InputsData) (name bytes : List ℕ)
    → slice_get (stages r) k ≡ Some s → s.name ≡ Some name → (IsTrue old.tells → GivesBefore k r old i)
    → (IsTrue old.tells → old.file name ≡ Some bytes) → length bytes ≤ s.most → OnFault e (s.outcome i bytes ≡ Err e)
    → WhyStopped r old new (stop_by e)
stage_refused (Fault f row code) k s r old new i name bytes at named before there fits is = λ told.
    faulty_answer r old.file f row code
    (fault_given (stages r) k s no_inputs i (Fault f row code) old.file at (before told) (loaded_given s i old.file name bytes (Err (Fault f row code)) named (there told) fits is))
stage_refused fault.NoMemory k s r old new i name bytes at named before there fits is = tt

-- What a reader's answer is with what there was.
pub part_faulty : {A : Type 0} (e : InputFault) (o : Result A InputFault) (put : A → InputsData) → OnFault e (o ≡ Err e) → OnFault e (with_part o put ≡ Err e)
part_faulty (Fault f row code) o put is = rw is refl
part_faulty fault.NoMemory o put is = tt

pub part_given : {A : Type 0} (a : A) (o : Result A InputFault) (put : A → InputsData) → o ≡ Ok a → with_part o put ≡ Ok (put a)
part_given a o put is = rw is refl

-- What the first stages give, with what stage k gives.
pub stage_read : (k : ℕ) (s : Stage) (r : RequestData) (old : StoreView) (i j : InputsData) (name bytes : List ℕ)
    → slice_get (stages r) k ≡ Some s → s.name ≡ Some name → GivesBefore k r old i
    → old.file name ≡ Some bytes → length bytes ≤ s.most → s.outcome i bytes ≡ Ok j
    → GivesBefore (suc k) r old j
stage_read k s r old i j name bytes at named before there fits is =
    next_given (stages r) k s no_inputs i j old.file at before (loaded_given s i old.file name bytes (Ok j) named there fits is)

-- A stage whose file isn't asked for gives no more.
pub stage_unasked : (k : ℕ) (s : Stage) (r : RequestData) (old : StoreView) (i : InputsData) → slice_get (stages r) k ≡ Some s → s.name ≡ None
    → GivesBefore k r old i → GivesBefore (suc k) r old i
stage_unasked k s r old i at none before = next_given (stages r) k s no_inputs i i old.file at before (unasked_given s i old.file none)

-- A call that only opens and reads changes no file.
pub files_stand : (old new : StoreView) → Passes old new → FilesStand old new
files_stand old new passes = λ told other. ap (λ (f : List ℕ → _). f other) (passes.files told).file

-- ---- A reason to stop after other files were read is one from the start.

pub rose_later : (before mid now : ℕ) → before ≤ mid → Rose mid now → Rose before now
rose_later before mid now later rose = omega arith

pub same_files : (old mid : StoreView) → Passes old mid → IsTrue old.tells → mid.file ≡ old.file
same_files old mid passes told = (passes.files told).file

later_read : (name : List ℕ) (old mid new : StoreView) → Passes old mid → CannotRead name mid new → CannotRead name old new
later_read name old mid new passes why = record {
  cause = rose_later old.faults mid.faults new.faults passes.later why.cause;
  unheld = λ steady. subst (λ held. Contains held name → ⊥) passes.stays.held (why.unheld (rw passes.stays.steady steady));
  kept = λ told other. why.kept (rw passes.stays.tells told) other ∙ files_stand old mid passes told other;
}

-- What files give before a call that only reads, they give after it, and the other way round.
pub gives_later : (k : ℕ) (r : RequestData) (old mid : StoreView) (i : InputsData) → Passes old mid → (IsTrue old.tells → GivesBefore k r old i)
    → IsTrue mid.tells → GivesBefore k r mid i
gives_later k r old mid i passes before told =
    let told' : IsTrue old.tells = rw passes.stays.tells at told in
    subst (λ (file : Files). given_by (take k (stages r)) no_inputs file ≡ Some (Ok i)) (sym (same_files old mid passes told')) (before told')

pub gives_earlier : (k : ℕ) (r : RequestData) (old mid : StoreView) (i : InputsData) → Passes old mid → (IsTrue mid.tells → GivesBefore k r mid i)
    → IsTrue old.tells → GivesBefore k r old i
gives_earlier k r old mid i passes after told =
    subst (λ (file : Files). given_by (take k (stages r)) no_inputs file ≡ Some (Ok i)) (same_files old mid passes told) (after (rw passes.stays.tells told))

pub later_stop : (stop : Stop) (r : RequestData) (old mid new : StoreView) → Passes old mid → WhyStopped r mid new stop → WhyStopped r old new stop
later_stop (Unread file) r old mid new passes why = record {
  k = why.k;
  stage = why.stage;
  stage_is = why.stage_is;
  file_is = why.file_is;
  fails = (why.fails.0, why.fails.1, later_read why.fails.0 old mid new passes why.fails.2);
  before = λ told.
      let there = why.before (rw passes.stays.tells told) in
      (there.0, subst (λ (file : Files). given_by (take why.k (stages r)) no_inputs file ≡ Some (Ok there.0)) (same_files old mid passes told) there.1);
}
later_stop (Faulty file row code) r old mid new passes why = λ told.
    subst (λ (files : Files). IsAnswerTo r files (refusal 3 (fault_line file row code))) (same_files old mid passes told) (why (rw passes.stays.tells told))
later_stop (Unwritten file) r old mid new passes why = (
  record {
    asked = why.0.asked;
    cause = rose_later old.faults mid.faults new.faults passes.later why.0.cause;
    unsteady = λ steady. why.0.unsteady (rw passes.stays.steady steady);
    before = λ told.
        let there = why.0.before (rw passes.stays.tells told) in
        (there.0, subst (λ (file : Files). IsAnswerTo r file (answer 0 there.0)) (same_files old mid passes told) there.1);
  },
  why.1,
)
later_stop NoMemory r old mid new passes why = tt

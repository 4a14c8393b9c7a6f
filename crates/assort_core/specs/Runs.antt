-- What a run of the program does to the store and to the two sinks. Own.
use Rattle.std.specs.Prelude.{◌≡◌, ◌⊎◌, ℕ, ◌≤◌, List, [], ◌++◌, take, Option, Some, IsTrue, Contains, slice_get}
use Rattle.offer_io.specs.Causes.{Rose}
use Rattle.offer_io.specs.Stores.{StoreView, Stays}
use Rattle.offer_io.specs.Sinks.{SinkView}
use Rattle.catalogue_rows.specs.declared.faults.FileName.{FileName}
use Rattle.assort_words.specs.Asked.{RequestData}
use Rattle.assort_core.specs.Lines.{unread_line, unwritten_line}
use Rattle.assort_core.specs.Stages.{InputsData, Stage, stages}
use Rattle.assort_core.specs.Judged.{GivesBefore, Gives}
use Rattle.assort_core.specs.Deeds.{Outcome, answer}
use Rattle.assort_core.specs.Outcomes.{IsOutcome, IsAnswerTo, IsClaimed, output_of}

-- A line was written to standard error: whole where its count of faults didn't rise, else a part from the line's front.
pub record Says (old : SinkView) (line : List ℕ) (new : SinkView) : Type 0 where
  pub whole : IsTrue old.tells → (Rose old.faults new.faults → ⊥) → new.bytes ≡ old.bytes ++ line
  pub part : IsTrue old.tells → (n : ℕ) × (new.bytes ≡ old.bytes ++ take n line)
  pub later : old.faults ≤ new.faults
  pub tells : new.tells ≡ old.tells

-- A report was written whole.
pub record Prints (old : SinkView) (report : List ℕ) (new : SinkView) : Type 0 where
  pub whole : IsTrue old.tells → new.bytes ≡ old.bytes ++ report
  pub later : old.faults ≤ new.faults
  pub tells : new.tells ≡ old.tells

-- The sink failed at a report, of which a part from the front may be there.
pub record FailsToPrint (old : SinkView) (report : List ℕ) (new : SinkView) : Type 0 where
  pub cause : Rose old.faults new.faults
  pub part : IsTrue old.tells → (n : ℕ) × (new.bytes ≡ old.bytes ++ take n report)
  pub tells : new.tells ≡ old.tells

-- The status, the report and the line are those of the words and the files.
pub record Performs (words : List (List ℕ)) (store : StoreView) (status : ℕ) (out out' err err' : SinkView) : Type 0 where
  pub outcome : Outcome
  pub is_outcome : IsOutcome words store.file outcome
  pub status_is : outcome.status ≡ status
  pub prints : Prints out outcome.report out'
  pub says : Says err outcome.line err'

-- ---- What stands afterwards.

-- The request asks for an output of this name.
abbrev pub AsksFor : RequestData → List ℕ → Type 0
AsksFor r name = (output_of r).name ≡ Some name

-- The content is a text that the request's output may hold.
abbrev pub IsOutput : RequestData → StoreView → Option (List ℕ) → Type 0
IsOutput r store content = (i : InputsData) × Gives r store i
    × ((text : List ℕ) × (output_of r).IsText i text × (content ≡ Some text))

-- The files have no fault, and the content is empty or a part from the front of such a text.
abbrev pub IsOutputPart : RequestData → StoreView → Option (List ℕ) → Type 0
IsOutputPart r store content = (i : InputsData) × Gives r store i × ((content ≡ Some [])
    ⊎ ((text : List ℕ) × (output_of r).IsText i text × ((n : ℕ) × (content ≡ Some (take n text)))))

-- No file changed but an output that the request asks for.
abbrev pub OthersStand : RequestData → StoreView → StoreView → Type 0
OthersStand r store store' = IsTrue store.tells → (other : List ℕ) → (AsksFor r other → ⊥) → store'.file other ≡ store.file other

-- The output that the request asks for is whole.
abbrev pub OutputStands : RequestData → StoreView → StoreView → Type 0
OutputStands r store store' = IsTrue store.tells → (name : List ℕ) → AsksFor r name → IsOutput r store (store'.file name)

-- It was sealed without a failure.
abbrev pub OutputIsSealed : RequestData → StoreView → Type 0
OutputIsSealed r store' = (name : List ℕ) → AsksFor r name → IsTrue store'.sealed

-- It is as it was, or a part from its front.
abbrev pub OutputMayStand : RequestData → StoreView → StoreView → Type 0
OutputMayStand r store store' = IsTrue store.tells → (name : List ℕ) → AsksFor r name
    → (store'.file name ≡ store.file name) ⊎ IsOutputPart r store (store'.file name)

-- No file changed.
abbrev pub FilesStand : StoreView → StoreView → Type 0
FilesStand store store' = IsTrue store.tells → (other : List ℕ) → store'.file other ≡ store.file other

-- ---- Why a run ends without its report.

-- A name can't be read: a call of the store failed, a steady store doesn't hold it, and no file changed.
pub record CannotRead (name : List ℕ) (store store' : StoreView) : Type 0 where
  pub cause : Rose store.faults store'.faults
  pub unheld : IsTrue store.steady → Contains store.held name → ⊥
  pub kept : FilesStand store store'

-- A file can't be read: it is that of stage k, it is asked for, and the k stages before it have no fault.
pub record CannotReadFile (r : RequestData) (file : FileName) (store store' : StoreView) : Type 0 where
  pub k : ℕ
  pub stage : Stage
  pub stage_is : slice_get (stages r) k ≡ Some stage
  pub file_is : stage.file ≡ file
  pub fails : (name : List ℕ) × (stage.name ≡ Some name) × CannotRead name store store'
  pub before : IsTrue store.tells → (i : InputsData) × GivesBefore k r store i

-- The output can't be written: the request asks for it and has its report, and a call of the store failed, which is not steady.
pub record CannotWrite (r : RequestData) (store store' : StoreView) : Type 0 where
  pub asked : (name : List ℕ) × AsksFor r name
  pub cause : Rose store.faults store'.faults
  pub unsteady : IsTrue store.steady → ⊥
  pub before : IsTrue store.tells → (report : List ℕ) × IsAnswerTo r store.file (answer 0 report)

-- A call of the store failed, the line says which file it was, an output that is asked for is as it was or a part from its
-- front, and nothing was printed.
pub record StoreFails (r : RequestData) (store store' : StoreView) (out out' err err' : SinkView) : Type 0 where
  pub why : ((file : FileName) × CannotReadFile r file store store' × Says err (unread_line file) err')
      ⊎ (CannotWrite r store store' × Says err (output_of r).line err')
  pub proof : OutputMayStand r store store'
  pub silent : out' ≡ out

-- The report can't be written: a call of the sink failed. Where the store tells its files, it is the report that the
-- words and the files make. An output that is asked for is whole.
pub record OutFails (words : List (List ℕ)) (r : RequestData) (store store' : StoreView) (out out' err err' : SinkView) : Type 0 where
  pub status : ℕ
  pub report : List ℕ
  pub fails : FailsToPrint out report out'
  pub is_outcome : IsTrue store.tells → IsOutcome words store.file (answer status report)
  pub says : Says err unwritten_line err'
  pub proof : OutputStands r store store'
  pub sealed : OutputIsSealed r store'

-- ---- What else is known of a run.

-- What no run changes, and counts that never fall.
pub record Endures (store store' : StoreView) : Type 0 where
  pub later : store.faults ≤ store'.faults
  pub stays : Stays store store'

-- The store tells that the files are there and have no fault.
pub record IsAnswerable (r : RequestData) (store : StoreView) : Type 0 where
  pub tells : IsTrue store.tells
  pub given : (i : InputsData) × Gives r store i

-- The names of the files that a request reads are held.
abbrev pub HoldsInputs : RequestData → StoreView → Type 0
HoldsInputs r store = (k : ℕ) (stage : Stage) (name : List ℕ) → slice_get (stages r) k ≡ Some stage → stage.name ≡ Some name
    → Contains store.held name

-- What a status of 0 claims of what the files give is so.
abbrev pub ClaimHolds : RequestData → StoreView → Type 0
ClaimHolds r store = (i : InputsData) × Gives r store i × IsClaimed r i

-- Why a run has no report, with the status and the line. Own.
use Rattle.std.specs.Prelude.{◌≡◌, ℕ, ◌<◌, List, length, Some, IsTrue}
use Rattle.catalogue_rows.specs.declared.faults.Code.TheVariants.{TooLarge}
use Rattle.catalogue_rows.specs.declared.faults.FileName.{FileName}
use Rattle.catalogue_rows.specs.declared.faults.InputFault.{InputFault}
use Rattle.catalogue_rows.specs.declared.faults.InputFault.TheVariants.{Fault}
use Rattle.catalogue_rows.specs.declared.faults.InputFault.TheVariants as fault
use Rattle.offer_io.specs.Stores.{StoreView}
use Rattle.assort_words.specs.Asked.{RequestData}
use Rattle.assort_core.specs.declared.stop.Stop.{Stop}
use Rattle.assort_core.specs.declared.stop.OutputName.{OutputName}
use Rattle.assort_core.specs.declared.stop.Stop.TheVariants.{Unread, Faulty, Unwritten, NoMemory}
use Rattle.assort_core.specs.Lines.{fault_line, unread_line, unwritten_file_line, memory_line}
use Rattle.assort_core.specs.Stages.{InputsData}
use Rattle.assort_core.specs.Judged.{Gives}
use Rattle.assort_core.specs.Deeds.{answer, refusal}
use Rattle.assort_core.specs.Outcomes.{IsAnswerTo, output_of}
use Rattle.assort_core.specs.Runs.{CannotRead, CannotReadFile, CannotWrite, OthersStand, OutputStands, OutputIsSealed, OutputMayStand, FilesStand, Endures}

abbrev pub status_of : Stop → ℕ
status_of (Unread file) = 4
status_of (Faulty file row code) = 3
status_of (Unwritten file) = 4
status_of NoMemory = 5

abbrev pub stop_line : Stop → List ℕ
stop_line (Unread file) = unread_line file
stop_line (Faulty file row code) = fault_line file row code
stop_line (Unwritten file) = unwritten_file_line file
stop_line NoMemory = memory_line

-- Why a run stops at a fault of a file.
abbrev pub stop_by : InputFault → Stop
stop_by (Fault file row code) = Faulty file row code
stop_by fault.NoMemory = NoMemory

-- Each reason to stop has its cause. Want of memory is free.
abbrev pub WhyStopped : RequestData → StoreView → StoreView → Stop → Type 0
WhyStopped r store store' (Unread file) = CannotReadFile r file store store'
WhyStopped r store store' (Faulty file row code) =
    IsTrue store.tells → IsAnswerTo r store.file (refusal 3 (fault_line file row code))
WhyStopped r store store' (Unwritten file) = CannotWrite r store store' × ((output_of r).line ≡ unwritten_file_line file)
WhyStopped r store store' NoMemory = Unit {0}

-- What a command leaves of the files where it has an answer: its output is whole and sealed, and all others are as they were.
pub record LeavesWhole (r : RequestData) (store store' : StoreView) : Type 0 where
  pub others : OthersStand r store store'
  pub proof : OutputStands r store store'
  pub sealed : OutputIsSealed r store'
  pub endures : Endures store store'

-- What it leaves of them where it stops: its output is as it was, or a part from its front, and at a fault no file changed. Within the crate, as the last.
pub record LeavesPart (r : RequestData) (store store' : StoreView) (stop : Stop) : Type 0 where
  pub others : OthersStand r store store'
  pub part : OutputMayStand r store store'
  pub kept : status_of stop ≡ 3 → FilesStand store store'
  pub endures : Endures store store'

-- The request has its report, and its output may hold these texts over what its files give.
pub record MayWrite (r : RequestData) (store : StoreView) (file : OutputName) (IsText : List ℕ → Type 0) : Type 0 where
  pub line : (output_of r).line ≡ unwritten_file_line file
  pub texts : IsTrue store.tells → (i : InputsData) × Gives r store i × ((text : List ℕ) → IsText text → (output_of r).IsText i text)
  pub report : IsTrue store.tells → (report : List ℕ) × IsAnswerTo r store.file (answer 0 report)

-- Why a file isn't loaded or read to its end. Want of memory is free.
abbrev pub WhyUnloaded : FileName → List ℕ → ℕ → StoreView → StoreView → Stop → Type 0
WhyUnloaded file name most store store' (Unread other) = (other ≡ file) × CannotRead name store store'
WhyUnloaded file name most store store' (Faulty other row code) = (other ≡ file) × (row ≡ 0) × (code ≡ TooLarge)
    × (IsTrue store.tells → (bytes : List ℕ) × (store.file name ≡ Some bytes) × (most < length bytes))
WhyUnloaded file name most store store' (Unwritten other) = ⊥
WhyUnloaded file name most store store' NoMemory = Unit {0}

-- What a store in memory tells, and what putting a file there does. Own.
use Rattle.std.specs.Prelude.{◌≡◌, ◌⊎◌, ℕ, Bool, true, false, List, [], Option, Some, None, is_some, IsTrue, Result}
use Rattle.std.specs.Option.{option_map_or}
use Rattle.offer_io.specs.declared.memory.MemoryStore.{MemoryStore}
use Rattle.offer_io.specs.declared.entries.Entry.{Entry}
use Rattle.offer_io.specs.Entries.{content_of, name_at, left_of}
use Rattle.offer_io.specs.Plans.{CallPlan, fails_next, plan_after}
use Rattle.offer_io.specs.Causes.{count_after}
use Rattle.offer_io.specs.Stores.{StoreView, OthersStay}

-- The view of files, of the place of the input and in it, of the place of the output, of whether the last one was ended, and
-- of a count of faults.
abbrev pub shelf_view : List Entry → Option (ℕ × ℕ) → Option ℕ → Bool → ℕ → StoreView
shelf_view files input output sealed faults = record {
  tells = true;
  file = content_of files;
  left = left_of files input;
  output = option_map_or (name_at files) output [];
  reading = is_some input;
  writing = is_some output;
  sealed = sealed;
  faults = faults;
  steady = false;
  held = [];
}

-- A store in memory tells all.
abbrev pub memory_view : MemoryStore → StoreView
memory_view s = shelf_view s.files.items s.input s.output s.sealed s.faults

-- The calls of a store in memory that were given to fail.
abbrev pub store_plan : MemoryStore → CallPlan
store_plan s = s.plan

-- The most bytes that a read of a store in memory gives.
abbrev pub store_most : MemoryStore → ℕ
store_most s = s.most

-- A store in memory without files.
abbrev pub empty_view : StoreView
empty_view = record {
  tells = true;
  file = λ _. None;
  left = [];
  output = [];
  reading = false;
  writing = false;
  sealed = false;
  faults = 0;
  steady = false;
  held = [];
}

-- A call was counted: it took the next number, and the count of faults rose exactly where it failed. What reads give at most
-- is as it was.
pub record Counts {T E : Type 0} (old : MemoryStore) (result : Result T E) (new : MemoryStore) : Type 0 where
  pub plan : store_plan new ≡ plan_after (store_plan old)
  pub most : store_most new ≡ store_most old
  pub faults : (memory_view new).faults ≡ count_after result (memory_view old).faults

-- A file was put there, and all else is as it was. Of what is left of the open input nothing is said.
pub record Puts (old : StoreView) (name content : List ℕ) (new : StoreView) : Type 0 where
  pub there : new.file name ≡ Some content
  pub others : OthersStay name old new
  pub rest : new ≡ record old { file = new.file; left = new.left }

-- A call that opens a file fails: it was given to fail, or there is no such file.
abbrev pub FailsToOpen : CallPlan → StoreView → List ℕ → Type 0
FailsToOpen plan view name = IsTrue (fails_next plan) ⊎ (view.file name ≡ None)

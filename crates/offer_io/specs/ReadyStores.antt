-- What contracts see of a store that never fails at the files that it holds. Own.
use Rattle.std.specs.Prelude.{◌≡◌, ◌⊎◌, ◌↔◌, ℕ, true, false, List, [], None, is_some, Contains}
use Rattle.offer_io.specs.declared.ready.ReadyStore.{ReadyStore}
use Rattle.offer_io.specs.Entries.{names_of}
use Rattle.offer_io.specs.Stores.{StoreView}
use Rattle.offer_io.specs.MemoryStores.{shelf_view}

-- It holds the names that were put, and tells nothing.
abbrev pub ready_view : ReadyStore → StoreView
ready_view s = record {
  tells = false;
  file = λ _. None;
  left = [];
  output = [];
  reading = is_some s.input;
  writing = s.writing;
  sealed = s.sealed;
  faults = s.faults;
  steady = true;
  held = names_of s.files.items;
}

-- What the store has, though it doesn't tell it: the same as a store in memory without an open output.
abbrev pub shelf_of : ReadyStore → StoreView
shelf_of s = shelf_view s.files.items s.input None false s.faults

-- A store that holds nothing.
abbrev pub new_ready : StoreView
new_ready = record {
  tells = false;
  file = λ _. None;
  left = [];
  output = [];
  reading = false;
  writing = false;
  sealed = false;
  faults = 0;
  steady = true;
  held = [];
}

-- The name is held from now on, and all else is as it was.
pub record HoldsToo (old : StoreView) (name : List ℕ) (new : StoreView) : Type 0 where
  pub held : (other : List ℕ) → Contains new.held other ↔ ((other ≡ name) ⊎ Contains old.held other)
  pub rest : new ≡ record old { held = new.held }

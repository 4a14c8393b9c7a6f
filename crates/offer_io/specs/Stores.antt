-- What the calls of a store do to its files, its open input and its open output. Own.
use Rattle.std.specs.Prelude.{◌≡◌, ◌≢◌, ◌⊎◌, ℕ, ◌≤◌, ◌<◌, Bool, true, false, List, [], ◌++◌, length, take, Option, Some, Result, OnOk, OnErr, IfOk, IsOk, is_ok, IsTrue, Contains}
use Rattle.offer_io.specs.Causes.{HasCause}

-- A store, as contracts see it. Where it tells its content, `file` is what stands under each name, `left` what is left
-- of the open input, and `output` the name of the open output, whose content stands under that name. Where it doesn't,
-- these three mean nothing. `sealed` says that the output that was made last was ended without a failure.
pub record StoreView : Type 0 where
  pub tells : Bool
  pub file : List ℕ → Option (List ℕ)
  pub left : List ℕ
  pub output : List ℕ
  pub reading : Bool
  pub writing : Bool
  pub sealed : Bool
  pub faults : ℕ
  pub steady : Bool
  pub held : List (List ℕ)

-- What no call changes.
pub record Stays (old new : StoreView) : Type 0 where
  pub tells : new.tells ≡ old.tells
  pub steady : new.steady ≡ old.steady
  pub held : new.held ≡ old.held

-- All files but the one of this name are as they were.
abbrev pub OthersStay : List ℕ → StoreView → StoreView → Type 0
OthersStay name old new = (other : List ℕ) → other ≢ name → new.file other ≡ old.file other

-- No file is changed, and the open output keeps its name.
pub record FilesStay (old new : StoreView) : Type 0 where
  pub file : new.file ≡ old.file
  pub output : new.output ≡ old.output

-- A file is opened for reading, and what is left is its whole content. After a failure no input is open.
pub record Opens {T E : Type 0} (old : StoreView) (name : List ℕ) (result : Result T E) (new : StoreView) : Type 0 where
  pub files : IsTrue old.tells → FilesStay old new
  pub left : IsTrue old.tells → OnOk result (old.file name ≡ Some new.left)
  pub reading : new.reading ≡ is_ok result
  pub writing : new.writing ≡ old.writing
  pub sealed : new.sealed ≡ old.sealed
  pub cause : HasCause old.faults new.faults result
  pub ready : IsTrue old.steady → Contains old.held name → IsOk result
  pub stays : Stays old new

-- The next bytes of the open input are put at the front of a piece, or none where it is at its end. After a failure
-- what is left is a part from the end of what was left.
pub record Reads {E : Type 0} (old : StoreView) (result : Result ℕ E) (piece : List ℕ) (new : StoreView) : Type 0 where
  pub count : IfOk result (λ n. n ≤ length piece)
  pub files : IsTrue old.tells → FilesStay old new
  pub bytes : IsTrue old.tells → IfOk result (λ n. old.left ≡ take n piece ++ new.left)
  pub end : IsTrue old.tells → IfOk result (λ n. n ≡ 0 → 0 < length piece → new.left ≡ [])
  pub skipped : IsTrue old.tells → OnErr result ((gone : List ℕ) × (old.left ≡ gone ++ new.left))
  pub reading : new.reading ≡ true
  pub writing : new.writing ≡ old.writing
  pub sealed : new.sealed ≡ old.sealed
  pub cause : HasCause old.faults new.faults result
  pub ready : IsTrue old.steady → IsOk result
  pub stays : Stays old new

-- An empty file is made as the open output. After a failure no output is open, and the file is as before or empty.
pub record Creates {T E : Type 0} (old : StoreView) (name : List ℕ) (result : Result T E) (new : StoreView)
    : Type 0 where
  pub others : IsTrue old.tells → OthersStay name old new
  pub made : IsTrue old.tells → OnOk result ((new.file name ≡ Some []) × (new.output ≡ name))
  pub failed : IsTrue old.tells → OnErr result ((new.file name ≡ old.file name) ⊎ (new.file name ≡ Some []))
  pub reading : new.reading ≡ old.reading
  pub writing : new.writing ≡ is_ok result
  pub sealed : new.sealed ≡ false
  pub cause : HasCause old.faults new.faults result
  pub ready : IsTrue old.steady → IsOk result
  pub stays : Stays old new

-- A file that is there has grown by these bytes.
abbrev pub Grows : Option (List ℕ) → List ℕ → Option (List ℕ) → Type 0
Grows old bytes new = (content : List ℕ) × (old ≡ Some content) × (new ≡ Some (content ++ bytes))

-- A piece is added to the open output. After a failure it has grown by a part from the piece's front.
pub record Appends {T E : Type 0} (old : StoreView) (piece : List ℕ) (result : Result T E) (new : StoreView) : Type 0 where
  pub others : IsTrue old.tells → OthersStay old.output old new
  pub output : IsTrue old.tells → new.output ≡ old.output
  pub whole : IsTrue old.tells → OnOk result (Grows (old.file old.output) piece (new.file old.output))
  pub part : IsTrue old.tells
      → OnErr result ((n : ℕ) × Grows (old.file old.output) (take n piece) (new.file old.output))
  pub reading : new.reading ≡ old.reading
  pub writing : new.writing ≡ true
  pub sealed : new.sealed ≡ old.sealed
  pub cause : HasCause old.faults new.faults result
  pub ready : IsTrue old.steady → IsOk result
  pub stays : Stays old new

-- The open output is ended, after a failure too.
pub record Seals {T E : Type 0} (old : StoreView) (result : Result T E) (new : StoreView) : Type 0 where
  pub file : IsTrue old.tells → new.file ≡ old.file
  pub left : IsTrue old.tells → new.left ≡ old.left
  pub reading : new.reading ≡ old.reading
  pub writing : new.writing ≡ false
  pub sealed : new.sealed ≡ is_ok result
  pub cause : HasCause old.faults new.faults result
  pub ready : IsTrue old.steady → IsOk result
  pub stays : Stays old new

-- What a call that only opens and reads does.
pub record Passes (old new : StoreView) : Type 0 where
  pub files : IsTrue old.tells → FilesStay old new
  pub writing : new.writing ≡ old.writing
  pub later : old.faults ≤ new.faults
  pub stays : Stays old new

-- A file that is there is longer than so many bytes.
abbrev pub IsLonger : Option (List ℕ) → ℕ → Type 0
IsLonger file most = (content : List ℕ) × (file ≡ Some content) × (most < length content)

-- What a call that only appends does: the open output, which stays open, has grown by these bytes.
pub record Extends (old : StoreView) (bytes : List ℕ) (new : StoreView) : Type 0 where
  pub others : IsTrue old.tells → OthersStay old.output old new
  pub output : IsTrue old.tells → new.output ≡ old.output
  pub grown : IsTrue old.tells → Grows (old.file old.output) bytes (new.file old.output)
  pub reading : new.reading ≡ old.reading
  pub writing : new.writing ≡ true
  pub later : old.faults ≤ new.faults
  pub stays : Stays old new

-- What a write does to a sink. Own.
use Rattle.std.specs.Prelude.{◌≡◌, ℕ, Bool, false, List, [], ◌++◌, take, Result, OnOk, OnErr, IsTrue}
use Rattle.offer_io.specs.Causes.{HasCause}

-- A sink, as contracts see it: the bytes written, which mean nothing where it doesn't tell them, and the count of faults.
pub record SinkView : Type 0 where
  pub tells : Bool
  pub bytes : List ℕ
  pub faults : ℕ

-- A piece is added to what was written. After a failure a part from the piece's front was added.
pub record Writes {T E : Type 0} (old : SinkView) (piece : List ℕ) (result : Result T E) (new : SinkView) : Type 0 where
  pub whole : IsTrue old.tells → OnOk result (new.bytes ≡ old.bytes ++ piece)
  pub part : IsTrue old.tells → OnErr result ((n : ℕ) × (new.bytes ≡ old.bytes ++ take n piece))
  pub cause : HasCause old.faults new.faults result
  pub tells : new.tells ≡ old.tells

-- The view of a sink that tells nothing and never fails.
abbrev pub quiet_view : SinkView
quiet_view = record { tells = false; bytes = []; faults = 0 }

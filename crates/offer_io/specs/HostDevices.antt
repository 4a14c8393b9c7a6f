-- What contracts see of the real files and streams: what is open, the count of faults, and what reaches a writer whose
-- bytes std knows. They tell no content. Own.
use Rattle.std.specs.Prelude.{ℕ, List, take, false, Option, None, Some, [], is_some, Result, MatchResult, ⊤}
use Rattle.std.specs.Io.KnownBytes.{Appends, ReadConsumes}
use Rattle.offer_io.specs.declared.host.HostStore.{HostStore}
use Rattle.offer_io.specs.declared.host.HostSink.{HostSink}
use Rattle.offer_io.specs.Stores.{StoreView}
use Rattle.offer_io.specs.Sinks.{SinkView}

-- The view of a store that tells nothing.
abbrev pub host_view : {R File Dir : Type 0} → HostStore R File Dir → StoreView
host_view s = record {
  tells = false;
  file = λ _. None;
  left = [];
  output = [];
  reading = is_some s.input;
  writing = is_some s.output;
  sealed = s.sealed;
  faults = s.faults;
  steady = false;
  held = [];
}

-- The file that is open for reading.
abbrev pub input_file : {R File Dir : Type 0} → HostStore R File Dir → Option File
input_file s = s.input

-- The file that is open for writing.
abbrev pub output_file : {R File Dir : Type 0} → HostStore R File Dir → Option File
output_file s = s.output

-- The view of a sink that tells nothing.
abbrev pub host_sink_view : {W : Type 0} → HostSink W → SinkView
host_sink_view s = record { tells = false; bytes = []; faults = s.faults }

-- The writer below a sink.
abbrev pub writer_of : {W : Type 0} → HostSink W → W
writer_of s = s.inner

-- Known bytes grow by the whole piece, or after a failure by a part from its front.
abbrev pub Reaches : {T E : Type 0} → Option (List ℕ) → List ℕ → Result T E → Option (List ℕ) → Type 0
Reaches old piece result new = MatchResult result (λ _. Appends old new piece) (λ _. (n : ℕ) × Appends old new (take n piece))

-- What a write to a file that is open does to the bytes that it is known to hold.
abbrev pub FileTakes : {F T E : Type 0} → (F → Option (List ℕ)) → Option F → List ℕ → Result T E → Option F → Type 0
FileTakes contents None piece result new = ⊤
FileTakes contents (Some old) piece result None = ⊥
FileTakes contents (Some old) piece result (Some new) = Reaches (contents old) piece result (contents new)

-- What a read from a file that is open does to the bytes that it is known to have left.
abbrev pub FileGives : {F E : Type 0} → (F → Option (List ℕ)) → Option F → Result ℕ E → List ℕ → Option F → Type 0
FileGives remaining None result piece new = ⊤
FileGives remaining (Some old) result piece None = ⊥
FileGives remaining (Some old) result piece (Some new) = ReadConsumes (remaining old) (remaining new) result piece

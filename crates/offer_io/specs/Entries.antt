-- Files as a list of names with their contents, in which the first of a name counts. Own.
use Rattle.std.specs.Prelude.{◌≡◌, ◌≢◌, ℕ, ◌≤◌, ◌<◌, Bool, List, [], ◌∷◌, ◌++◌, length, drop, Option, Some, slice_get, slice_set, find, map, option_map}
use Rattle.std.specs.List.{position_or_len}
use Rattle.std.specs.Option.{option_map_or}
use Rattle.std.specs.Str.{bytes_eq}
use Rattle.offer_io.specs.declared.entries.Entry.{Entry}

-- Whether a file has this name.
abbrev pub is_named : List ℕ → Entry → Bool
is_named name entry = bytes_eq entry.name.items name

-- The names of the files.
abbrev pub names_of : List Entry → List (List ℕ)
names_of files = map (λ entry. entry.name.items) files

-- The content under a name.
abbrev pub content_of : List Entry → List ℕ → Option (List ℕ)
content_of files name = option_map (λ entry. entry.content.items) (find (is_named name) files)

-- The content at a place.
abbrev pub content_at : List Entry → ℕ → List ℕ
content_at files at = option_map_or (λ entry. entry.content.items) (slice_get files at) []

-- The name at a place.
abbrev pub name_at : List Entry → ℕ → List ℕ
name_at files at = option_map_or (λ entry. entry.name.items) (slice_get files at) []

-- What is left of an input that is read at a place in the list, from a place in the file.
abbrev pub left_of : List Entry → Option (ℕ × ℕ) → List ℕ
left_of files input = option_map_or (λ p. drop p.1 (content_at files p.0)) input []

-- The file at a place is the first of its name.
pub record IsFirst (files : List Entry) (at : ℕ) : Type 0 where
  pub inside : at < length files
  pub first : at ≡ position_or_len (is_named (name_at files at)) files

-- The file at a place has another content, and all else is as it was.
pub record IsWritten (old : List Entry) (at : ℕ) (new : List Entry) (bytes : List ℕ) : Type 0 where
  pub file : Entry
  pub name : file.name.items ≡ name_at old at
  pub content : file.content.items ≡ bytes
  pub files : new ≡ slice_set old at file

-- The file at a place has grown by a piece.
abbrev pub IsGrown : List Entry → ℕ → List ℕ → List Entry → Type 0
IsGrown old at piece new = IsWritten old at new (content_at old at ++ piece)

-- A file was added at the end.
pub record IsAdded (old : List Entry) (name bytes : List ℕ) (new : List Entry) : Type 0 where
  pub file : Entry
  pub called : file.name.items ≡ name
  pub content : file.content.items ≡ bytes
  pub files : new ≡ old ++ file ∷ []

-- Each place keeps its name, and each first place of a name stays one.
pub record KeepsPlaces (old new : List Entry) : Type 0 where
  pub longer : length old ≤ length new
  pub names : (at : ℕ) → at < length old → name_at new at ≡ name_at old at
  pub firsts : (at : ℕ) → IsFirst old at → IsFirst new at

-- A file was put there, and no other name has another content.
pub record IsPut (old : List Entry) (name bytes : List ℕ) (new : List Entry) : Type 0 where
  pub there : content_of new name ≡ Some bytes
  pub others : (other : List ℕ) → other ≢ name → content_of new other ≡ content_of old other

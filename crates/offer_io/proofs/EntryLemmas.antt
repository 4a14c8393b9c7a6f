-- Lists of files: looking a name up, and what a write or an added file changes.
use Rattle.std.proofs.Common.{◌≡◌, ◌≢◌, ◌∙◌, sym, ap, refl, arith, ℕ, ◌+◌, ◌<◌, ◌≤◌, List, [], ◌∷◌, ◌++◌, length, Bool, true, false, cond, Option, Some, None, slice_get, slice_set, slice_index_or, length-set, get_or-set_same, add-zero, not, nat_eq, nat_lt, subst, take, drop, ◌⊎◌, inl, inr}
use Rattle.std.proofs.lemmas.Grind.{common_steps}
use Rattle.std.specs.List.{position_or_len, position, find}
use Rattle.std.specs.Option.{option_map, option_or}
use Rattle.std.specs.Str.{bytes_eq}
use Rattle.std.proofs.lemmas.Slice.Eq.{bytes_eq-Decides}
use Rattle.std.specs.Bool.{Decides}
use Rattle.std.proofs.lemmas.Bool.Decides.{not_from_Decides}
use Rattle.std.proofs.lemmas.List.{take-append-drop, append-nil, drop-drop}
use Rattle.std.proofs.lemmas.List.Sums.{passes_at_first, prefix_len-le-length}
use Rattle.std.proofs.lemmas.Option.{slice_get-get_or, slice_get_cases, slice_get_past}
use Rattle.std.proofs.lemmas.List.Folds.{find_at, find-set, find_past, find-append, position_or_len-set, position_or_len_push}
use Rattle.offer_io.specs.Stores.{Grows}
use Rattle.offer_io.specs.declared.entries.Entry.{Entry}
use Rattle.offer_io.specs.Entries.{is_named, content_of, content_at, name_at, IsFirst, IsWritten, IsAdded}

-- The name at a place is that of its entry.
pub name_there : (files : List Entry) (i : ℕ) (d : Entry) → i < length files
    → name_at files i ≡ (slice_index_or files i d).name.items
name_there files i d inside = rw (slice_get-get_or files i d inside) refl

-- The content at a place is that of its entry.
pub content_there : (files : List Entry) (i : ℕ) (d : Entry) → i < length files
    → content_at files i ≡ (slice_index_or files i d).content.items
content_there files i d inside = rw (slice_get-get_or files i d inside) refl

-- a file that is there
pub there : (files : List Entry) (i : ℕ) → i < length files
    → (e : Entry) × (slice_get files i ≡ Some e) × (slice_index_or files i e ≡ e)
there files i inside = by_case (slice_get_cases files i).1
  where
    by_case : (((e : Entry) × (i < length files) × (slice_get files i ≡ Some e) × (slice_index_or files i e ≡ e))
        ⊎ ((length files ≤ i) × (slice_get files i ≡ None)))
        → (e : Entry) × (slice_get files i ≡ Some e) × (slice_index_or files i e ≡ e)
    by_case (inl h) = (h.0, h.2, h.3)
    by_case (inr h) = absurd (omega arith)

-- Equal names pass the test.
pub same_name : (a b : List ℕ) → a ≡ b → bytes_eq a b ≡ true
same_name a b e = when_decided (bytes_eq a b) (bytes_eq-Decides a b)
  where
    when_decided : (r : Bool) → Decides r (a ≡ b) → r ≡ true
    when_decided true d = refl
    when_decided false d = absurd (not_from_Decides false d refl e)

-- Other names fail it.
pub other_name : (a b : List ℕ) → a ≢ b → bytes_eq a b ≡ false
other_name a b e = when_decided (bytes_eq a b) (bytes_eq-Decides a b)
  where
    when_decided : (r : Bool) → Decides r (a ≡ b) → r ≡ false
    when_decided false d = refl
    when_decided true d = absurd (e (d.0 refl))

-- the content of the first file of a name
pub content_first : (files : List Entry) (i : ℕ) → IsFirst files i
    → content_of files (name_at files i) ≡ Some (content_at files i)
content_first files i first =
    let e = there files i first.inside in
    rw (find_at (is_named (name_at files i)) files, ← first.first, e.1) refl

-- a write to the first file of a name
pub content_written : (files new : List Entry) (i : ℕ) (bytes : List ℕ) → IsFirst files i
    → IsWritten files i new bytes → content_of new (name_at files i) ≡ Some bytes
content_written files new i bytes first written =
    let same = same_name written.file.name.items (name_at files i) written.name in
    rw (written.files, find-set (is_named (name_at files i)) files i written.file first.first first.inside same, written.content) refl

-- and all others stay
pub others_written : (files new : List Entry) (i : ℕ) (bytes name : List ℕ) → i < length files
    → IsWritten files i new bytes → name ≢ name_at files i → content_of new name ≡ content_of files name
others_written files new i bytes name inside written other =
    let e = there files i inside in
    let is = name_there files i e.0 inside in
    let was : is_named name (slice_index_or files i e.0) ≡ false = other_name _ _ (λ h. other (sym h ∙ sym is)) in
    let now : is_named name written.file ≡ false = other_name _ _ (λ h. other (sym h ∙ written.name)) in
    rw (written.files, find_past (is_named name) files i written.file e.0 was now) refl

-- A write keeps the first place of a name.
pub first_written : (files new : List Entry) (i : ℕ) (bytes : List ℕ) → IsFirst files i
    → IsWritten files i new bytes → IsFirst new i
first_written files new i bytes first written =
    let e = there files i first.inside in
    let is = name_there files i e.0 first.inside in
    let long : length new ≡ length files = rw written.files (length-set {A = Entry} files i written.file) in
    let name : name_at new i ≡ name_at files i = rw (name_there new i written.file (omega arith)) (rw (written.files, get_or-set_same files i written.file written.file first.inside) written.name) in
    let tests : is_named (name_at files i) written.file ≡ is_named (name_at files i) (slice_index_or files i e.0) = rw (written.name, is) refl in
    record {
      inside = omega arith;
      first = rw (name, written.files, position_or_len-set (is_named (name_at files i)) files i written.file e.0 tests) first.first;
    }

-- what a write of a piece to an entry that was read at a place does
pub grown : (files : List Entry) (i : ℕ) (was file : Entry) (bytes : List ℕ) → i < length files
    → was ≡ slice_index_or files i was
    → file.name.items ≡ was.name.items → file.content.items ≡ bytes
    → IsWritten files i (slice_set files i file) bytes
grown files i was file bytes inside e name content = record {
  file = file;
  name = name ∙ (ap (λ (t : Entry). t.name.items) e ∙ sym (name_there files i was inside));
  content = content;
  files = refl;
}

-- Where a search found a place.
pub pos_some : (b : Bool) (n i : ℕ) → cond b (Some n) None ≡ Some i → (b ≡ true) × (n ≡ i)
pos_some true n i h = (refl, cc)
pos_some false n i h = cc

-- Where a search found none.
pub pos_none : (b : Bool) (n : ℕ) → cond b (Some n) None ≡ None → b ≡ false
pos_none true n h = cc
pos_none false n h = refl

in_range : (a b : ℕ) → nat_lt a b ≡ true → a < b
in_range a b h = grind arith

-- the file that passes first has the name
pub has_name : (files : List Entry) (name : List ℕ) → position_or_len (is_named name) files < length files
    → name_at files (position_or_len (is_named name) files) ≡ name
has_name files name inside =
    let e = there files (position_or_len (is_named name) files) inside in
    let passes = passes_at_first (is_named name) files e.0 inside in
    name_there files (position_or_len (is_named name) files) e.0 inside ∙ (bytes_eq-Decides _ name).0 passes

-- what `position` finds is the first file of the name
pub found : (files : List Entry) (name : List ℕ) (i : ℕ) → position (is_named name) files ≡ Some i
    → (name_at files i ≡ name) × IsFirst files i
found files name i h =
    let q = pos_some _ (position_or_len (is_named name) files) i h in
    let inside = in_range _ _ q.0 in
    let P : ℕ → Type 0 = λ k. (name_at files k ≡ name) × IsFirst files k in
    let same = has_name files name inside in
    subst P q.1 (same, record { inside = inside; first = rw same refl })

-- The content under a name that was found.
pub opened : (files : List Entry) (name : List ℕ) (i : ℕ) → position (is_named name) files ≡ Some i
    → content_of files name ≡ Some (content_at files i)
opened files name i h =
    let f = found files name i h in
    let P : List ℕ → Type 0 = λ n. content_of files n ≡ Some (content_at files i) in
    subst P f.0 (content_first files i f.1)

-- A name that was not found has no content.
pub absent : (files : List Entry) (name : List ℕ) → position (is_named name) files ≡ None
    → content_of files name ≡ None
absent files name h =
    let past : length files ≤ position_or_len (is_named name) files = out_of_range _ _ (pos_none _ (position_or_len (is_named name) files) h) in
    rw (find_at (is_named name) files, slice_get_past files (position_or_len (is_named name) files) past) refl
  where
    out_of_range : (a b : ℕ) → nat_lt a b ≡ false → b ≤ a
    out_of_range a b h = grind arith

-- reading goes on
pub read_on : (content piece : List ℕ) (from n : ℕ) → n ≤ length (drop from content)
    → take n piece ≡ take n (drop from content) → drop from content ≡ take n piece ++ drop (from + n) content
read_on content piece from n fits same =
    sym (take-append-drop n (drop from content)) ∙ (rw (same, drop-drop n from content) refl)

-- A read of nothing comes only at the end.
pub read_end : (content piece : List ℕ) (from n : ℕ) → (n ≡ 0 → 0 < length piece → drop from content ≡ [])
    → n ≡ 0 → 0 < length piece → drop (from + n) content ≡ []
read_end content piece from n ends none some = rw (none, add-zero) (ends none some)

-- a call that failed at once adds nothing
pub nothing_grew : (files : List Entry) (i : ℕ) (piece : List ℕ) → IsFirst files i
    → (n : ℕ) × Grows (content_of files (name_at files i)) (take n piece) (content_of files (name_at files i))
nothing_grew files i piece first =
    (0, (content_at files i, content_first files i first, content_first files i first ∙ ap Some (sym (append-nil (content_at files i)))))

-- a write adds these bytes
pub piece_grew : (files new : List Entry) (i : ℕ) (piece : List ℕ) → IsFirst files i
    → IsWritten files i new (content_at files i ++ piece)
    → Grows (content_of files (name_at files i)) piece (content_of new (name_at files i))
piece_grew files new i piece first written = (content_at files i, content_first files i first, content_written files new i _ first written)

-- A write keeps the name.
pub name_after : (files new : List Entry) (i : ℕ) (bytes : List ℕ) → IsFirst files i
    → IsWritten files i new bytes → name_at new i ≡ name_at files i
name_after files new i bytes first written =
    let long : length new ≡ length files = rw written.files (length-set {A = Entry} files i written.file) in
    rw (name_there new i written.file (omega arith)) (rw (written.files, get_or-set_same files i written.file written.file first.inside) written.name)

-- No content, no file.
pub unmapped : (o : Option Entry) → option_map (λ (e : Entry). e.content.items) o ≡ None → o ≡ None
unmapped None h = refl
unmapped (Some e) h = cc

-- a file that is added
pub others_added : (files new : List Entry) (name bytes other : List ℕ) → IsAdded files name bytes new
    → other ≢ name → content_of new other ≡ content_of files other
others_added files new name bytes other added differs =
    let no : is_named other added.file ≡ false = other_name _ _ (λ h. differs (sym h ∙ added.called)) in
    rw (added.files, find-append (is_named other) files (added.file ∷ []), no) (by_old (find (is_named other) files))
  where
    by_old : (o : Option Entry)
        → option_map (λ (e : Entry). e.content.items) (option_or o None) ≡ option_map (λ (e : Entry). e.content.items) o
    by_old None = refl
    by_old (Some e) = refl

-- An added file is found under its name.
pub content_added : (files new : List Entry) (name bytes : List ℕ) → content_of files name ≡ None
    → IsAdded files name bytes new → content_of new name ≡ Some bytes
content_added files new name bytes none added =
    let yes : is_named name added.file ≡ true = same_name _ _ added.called in
    let old : find (is_named name) files ≡ None = unmapped (find (is_named name) files) none in
    rw (added.files, find-append (is_named name) files (added.file ∷ []), old, yes, added.content) refl

-- An added file is the last.
pub name_added : (files new : List Entry) (name bytes : List ℕ) → IsAdded files name bytes new
    → name_at new (length files) ≡ name
name_added files new name bytes added =
    let long : length (files ++ added.file ∷ []) ≡ length files + 1 = grind (arith, common_steps) in
    let item : slice_index_or (files ++ added.file ∷ []) (length files) added.file ≡ added.file = grind (arith, common_steps) in
    let last : slice_get (files ++ added.file ∷ []) (length files) ≡ Some added.file =
    slice_get-get_or (files ++ added.file ∷ []) (length files) added.file (omega arith) ∙ ap Some item in
    rw (added.files, last) added.called

-- a name that no file has is at no place
pub all_others : (files : List Entry) (name : List ℕ) → content_of files name ≡ None
    → position_or_len (is_named name) files ≡ length files
all_others files name none =
    at_end (prefix_len-le-length (λ (x : Entry). not (is_named name x)) files) passed_by
  where
    passed_by : position_or_len (is_named name) files < length files → ⊥
    passed_by inside =
        let e = there files (position_or_len (is_named name) files) inside in
        some_none e.0 (sym e.1 ∙ (sym (find_at (is_named name) files) ∙ unmapped (find (is_named name) files) none))
      where
        some_none : (e : Entry) → Some e ≡ None → ⊥
        some_none e h = cc

    at_end : position_or_len (is_named name) files ≤ length files
        → (position_or_len (is_named name) files < length files → ⊥)
        → position_or_len (is_named name) files ≡ length files
    at_end within passed = grind arith

-- An added file of a new name is the first of it.
pub first_added : (files new : List Entry) (name bytes : List ℕ) → content_of files name ≡ None
    → IsAdded files name bytes new → IsFirst new (length files)
first_added files new name bytes none added =
    let yes : is_named name added.file ≡ true = same_name _ _ added.called in
    let same = name_added files new name bytes added in
    let long : length new ≡ length files + 1 = rw added.files (grind (arith, common_steps)) in
    record {
      inside = omega arith;
      first = rw (same, added.files, position_or_len_push (is_named name) files added.file, yes, all_others files name none) (self_or (nat_eq (length files) (length files)) (length files));
    }
  where
    self_or : (b : Bool) (n : ℕ) → n ≡ cond b (n + 0) n
    self_or true n = omega arith
    self_or false n = refl

-- what the calls of a store in memory use
pub ruleset shelf_steps = (content_first, content_written, others_written, first_written, found, opened, absent, read_on, read_end)

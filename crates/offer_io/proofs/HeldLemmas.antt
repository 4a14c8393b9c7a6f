-- The names of a list of files are those under which it has a content.
use Rattle.std.proofs.Common.{◌≡◌, ◌≢◌, ◌∙◌, sym, refl, arith, ℕ, ◌<◌, ◌↔◌, List, length, Bool, true, false, Option, Some, None, slice_index_or, ◌⊎◌, inl, inr, Contains}
use Rattle.std.specs.Str.{bytes_eq}
use Rattle.std.proofs.lemmas.List.{length-map, get_or-map}
use Rattle.std.proofs.lemmas.List.Sums.{fails_before_first}
use Rattle.std.specs.List.{position}
use Rattle.std.proofs.lemmas.Slice.Eq.{bytes_eq-Decides}
use Rattle.offer_io.specs.declared.entries.Entry.{Entry}
use Rattle.offer_io.specs.Entries.{is_named, names_of, content_of, name_at, IsPut}
use Rattle.offer_io.proofs.EntryLemmas.{there, name_there, same_name, all_others, found, absent}

not_both : (b : Bool) → b ≡ true → b ≡ false → ⊥
not_both b true_is false_is = cc

-- a name that is held has a content
pub held_there : (files : List Entry) (name : List ℕ) → content_of files name ≡ None
    → Contains (names_of files) name → ⊥
held_there files name none held =
    let long = length-map files (λ (e : Entry). e.name.items) in
    let within : held.0 < length files = omega (arith, held.1, long) in
    let past = all_others files name none in
    let e = there files held.0 within in
    let is : (slice_index_or files held.0 e.0).name.items ≡ name = sym (get_or-map (λ (e : Entry). e.name.items) files held.0 e.0 name within) ∙ held.2 in
    not_both _ (same_name _ name is) (fails_before_first (is_named name) files held.0 e.0 (omega arith))

-- a file that isn't found is not held
pub held_found : (files : List Entry) (name : List ℕ) → position (is_named name) files ≡ None
    → Contains (names_of files) name → ⊥
held_found files name none held = held_there files name (absent files name none) held

-- a file at a place is held
held_at : (files : List Entry) (name : List ℕ) (i : ℕ) → i < length files → name_at files i ≡ name
    → Contains (names_of files) name
held_at files name i inside is =
    let long = length-map files (λ (e : Entry). e.name.items) in
    let e = there files i inside in
    (i, omega arith, get_or-map (λ (e : Entry). e.name.items) files i e.0 name inside ∙ (sym (name_there files i e.0 inside) ∙ is))

-- a file that is found is held
pub found_held : (files : List Entry) (name : List ℕ) (i : ℕ) → position (is_named name) files ≡ Some i
    → Contains (names_of files) name
found_held files name i h =
    let f = found files name i h in
    held_at files name i f.1.inside f.0

some_or_none : {X : Type 0} (o : Option X) → (o ≡ None) ⊎ ((x : X) × (o ≡ Some x))
some_or_none None = inl refl
some_or_none (Some x) = inr (x, refl)

-- a name with a content is held
there_held : (files : List Entry) (name content : List ℕ) → content_of files name ≡ Some content
    → Contains (names_of files) name
there_held files name content there = by_place (some_or_none (position (is_named name) files))
  where
    by_place : ((position (is_named name) files ≡ None) ⊎ ((i : ℕ) × (position (is_named name) files ≡ Some i)))
        → Contains (names_of files) name
    by_place (inl h) = absurd (some_none _ (absent files name h) there)
      where
        some_none : (o : Option (List ℕ)) → o ≡ None → o ≡ Some content → ⊥
        some_none o a b = cc
    by_place (inr h) = found_held files name h.0 h.1

-- a name that is held in one list is held in another that has the same content under it
same_held : (files new : List Entry) (name : List ℕ) → content_of new name ≡ content_of files name
    → Contains (names_of files) name → Contains (names_of new) name
same_held files new name same held = by_content (some_or_none (content_of files name))
  where
    by_content : ((content_of files name ≡ None) ⊎ ((content : List ℕ) × (content_of files name ≡ Some content)))
        → Contains (names_of new) name
    by_content (inl h) = absurd (held_there files name h held)
    by_content (inr h) = there_held new name h.0 (same ∙ h.1)

same_or_other : (a b : List ℕ) → (a ≡ b) ⊎ (a ≢ b)
same_or_other a b = by_test (bytes_eq a b) refl
  where
    by_test : (r : Bool) → bytes_eq a b ≡ r → (a ≡ b) ⊎ (a ≢ b)
    by_test true h = inl ((bytes_eq-Decides a b).0 h)
    by_test false h = inr (λ e. not_both _ (same_name a b e) h)

-- after a file was put its name is held, and the names that were
pub held_put : (files new : List Entry) (name bytes : List ℕ) → IsPut files name bytes new
    → (other : List ℕ) → Contains (names_of new) other ↔ ((other ≡ name) ⊎ Contains (names_of files) other)
held_put files new name bytes put other = (forth (same_or_other other name), back (same_or_other other name))
  where
    forth : (other ≡ name) ⊎ (other ≢ name) → Contains (names_of new) other
        → (other ≡ name) ⊎ Contains (names_of files) other
    forth (inl e) held = inl e
    forth (inr differs) held = inr (same_held new files other (sym (put.others other differs)) held)

    back : (other ≡ name) ⊎ (other ≢ name) → (other ≡ name) ⊎ Contains (names_of files) other
        → Contains (names_of new) other
    back (inl e) either = rw e (there_held new name bytes put.there)
    back (inr differs) (inl e) = absurd (differs e)
    back (inr differs) (inr held) = same_held files new other (put.others other differs) held

-- what the calls of a ready store use
pub ruleset held_steps = (held_found, found_held)

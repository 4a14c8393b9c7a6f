-- What putting a file into a list of files changes.
use Rattle.std.proofs.Common.{◌≡◌, ◌≢◌, ◌∙◌, sym, ap, refl, arith, ℕ, ◌+◌, ◌<◌, ◌≤◌, ◌⊎◌, inl, inr, List, [], ◌∷◌, length, Bool, true, false, eqb, Option, Some, None, slice_index_or, length-set, Result, Ok, Err, OnOk, OnErr}
use Rattle.std.proofs.lemmas.Grind.{common_steps}
use Rattle.std.proofs.lemmas.List.{get_or-set_other, get_or_append_left}
use Rattle.std.proofs.lemmas.Bool.{ne_eqb}
use Rattle.std.proofs.lemmas.Bool.Decides.{eqb_tells}
use Rattle.std.specs.List.{position}
use Rattle.std.specs.Option.{ForSome, option_map_or}
use Rattle.std.proofs.lemmas.List.Folds.{position_or_len-set, position_or_len_push}
use Rattle.offer_io.specs.declared.entries.Entry.{Entry}
use Rattle.offer_io.specs.Entries.{is_named, content_of, name_at, IsFirst, IsWritten, IsAdded, IsPut, KeepsPlaces}
use Rattle.offer_io.specs.MemoryStores.{shelf_view, Puts}
use Rattle.offer_io.proofs.EntryLemmas.{there, name_there, name_after, found, content_written, others_written, content_added, others_added}

length_written : (files new : List Entry) (i : ℕ) (bytes : List ℕ) → IsWritten files i new bytes
    → length new ≡ length files
length_written files new i bytes written = rw written.files (length-set {A = Entry} files i written.file)

same_or_other : (i k : ℕ) → (k ≡ i) ⊎ (k ≢ i)
same_or_other i k = by_test (eqb_tells k i)
  where
    by_test : (((eqb k i ≡ true) × (k ≡ i)) ⊎ ((eqb k i ≡ false) × (k ≢ i))) → (k ≡ i) ⊎ (k ≢ i)
    by_test (inl h) = inl h.1
    by_test (inr h) = inr h.1

-- a write keeps each name
name_written : (files new : List Entry) (i : ℕ) (bytes : List ℕ) → IsFirst files i
    → IsWritten files i new bytes
    → (k : ℕ) → k < length files → name_at new k ≡ name_at files k
name_written files new i bytes first written k inside = by_case (same_or_other i k)
  where
    by_case : (k ≡ i) ⊎ (k ≢ i) → name_at new k ≡ name_at files k
    by_case (inl e) = rw e (name_after files new i bytes first written)
    by_case (inr differs) =
        let long = length_written files new i bytes written in
        let d = written.file in
        name_there new k d (omega arith)
        ∙ (rw written.files (ap (λ (e : Entry). e.name.items) (get_or-set_other files i k d d differs)) ∙ sym (name_there files k d inside))

-- a write keeps each first place
firsts_written : (files new : List Entry) (i : ℕ) (bytes : List ℕ) → IsFirst files i
    → IsWritten files i new bytes
    → (k : ℕ) → IsFirst files k → IsFirst new k
firsts_written files new i bytes first written k was =
    let e = there files i first.inside in
    let is = name_there files i e.0 first.inside in
    let long = length_written files new i bytes written in
    let name = name_written files new i bytes first written k was.inside in
    let tests : is_named (name_at files k) written.file ≡ is_named (name_at files k) (slice_index_or files i e.0) = rw (written.name, is) refl in
    record {
      inside = omega arith;
      first = rw (name, written.files, position_or_len-set (is_named (name_at files k)) files i written.file e.0 tests) was.first;
    }

-- a file is put over one of its name
pub put_written : (files new : List Entry) (i : ℕ) (name bytes : List ℕ)
    → position (is_named name) files ≡ Some i → IsWritten files i new bytes
    → IsPut files name bytes new
put_written files new i name bytes at written =
    let f = found files name i at in
    record {
      there = rw (← f.0) (content_written files new i bytes f.1 written);
      others = λ other differs. others_written files new i bytes other f.1.inside written (λ e. differs (e ∙ f.0));
    }

-- A write keeps all places.
pub places_written : (files new : List Entry) (i : ℕ) (name bytes : List ℕ)
    → position (is_named name) files ≡ Some i → IsWritten files i new bytes
    → KeepsPlaces files new
places_written files new i name bytes at written =
    let f = found files name i at in
    let long = length_written files new i bytes written in
    record {
      longer = omega arith;
      names = name_written files new i bytes f.1 written;
      firsts = firsts_written files new i bytes f.1 written;
    }

-- A list that is the same keeps all places.
pub places_same : (files new : List Entry) → new ≡ files → KeepsPlaces files new
places_same files new same = rw same (record {
  longer = omega arith;
  names = λ i inside. refl;
  firsts = λ i first. first;
})

length_added : (files new : List Entry) (name bytes : List ℕ) → IsAdded files name bytes new
    → length new ≡ length files + 1
length_added files new name bytes added = rw added.files (grind (arith, common_steps))

names_added : (files new : List Entry) (name bytes : List ℕ) → IsAdded files name bytes new
    → (k : ℕ) → k < length files → name_at new k ≡ name_at files k
names_added files new name bytes added k inside =
    let long = length_added files new name bytes added in
    let d = added.file in
    name_there new k d (omega arith)
    ∙ (rw added.files (ap (λ (e : Entry). e.name.items) (get_or_append_left files (d ∷ []) d k inside)) ∙ sym (name_there files k d inside))

firsts_added : (files new : List Entry) (name bytes : List ℕ) → IsAdded files name bytes new → (k : ℕ)
    → IsFirst files k → IsFirst new k
firsts_added files new name bytes added k was =
    let long = length_added files new name bytes added in
    let same = names_added files new name bytes added k was.inside in
    let before : k ≢ length files = λ e. omega (arith, was.inside, e) in
    record {
      inside = omega arith;
      first = rw (same, added.files, position_or_len_push (is_named (name_at files k)) files added.file, ← was.first, ne_eqb k (length files) before) refl;
    }

-- a file is put whose name is new
pub put_added : (files new : List Entry) (name bytes : List ℕ) → content_of files name ≡ None
    → IsAdded files name bytes new
    → IsPut files name bytes new
put_added files new name bytes none added = record {
  there = content_added files new name bytes none added;
  others = λ other differs. others_added files new name bytes other added differs;
}

-- An added file keeps all places.
pub places_added : (files new : List Entry) (name bytes : List ℕ) → IsAdded files name bytes new
    → KeepsPlaces files new
places_added files new name bytes added =
    let long = length_added files new name bytes added in
    record {
      longer = omega arith;
      names = names_added files new name bytes added;
      firsts = firsts_added files new name bytes added;
    }

-- a file is put whose name is new, where memory may run out
pub put_by_adding : {T E : Type 0} (result : Result T E) (files new : List Entry) (name bytes : List ℕ)
    → content_of files name ≡ None
    → OnOk result (IsAdded files name bytes new) → OnErr result (new ≡ files)
    → KeepsPlaces files new × OnOk result (IsPut files name bytes new)
put_by_adding (Ok t) files new name bytes none added same = (places_added files new name bytes added, put_added files new name bytes none added)
put_by_adding (Err e) files new name bytes none added same = (places_same files new same, tt)

-- the open output keeps its name
output_put : (files new : List Entry) → KeepsPlaces files new → (output : Option ℕ)
    → ForSome output (IsFirst files)
    → option_map_or (name_at new) output [] ≡ option_map_or (name_at files) output []
output_put files new keeps None first = refl
output_put files new keeps (Some i) first = keeps.names i (first i refl).inside

-- what a store in memory tells after a file was put
pub view_put : (files new : List Entry) (input : Option (ℕ × ℕ)) (output : Option ℕ) (sealed : Bool) (faults : ℕ) (name bytes : List ℕ)
    → IsPut files name bytes new → KeepsPlaces files new → ForSome output (IsFirst files)
    → Puts (shelf_view files input output sealed faults) name bytes (shelf_view new input output sealed faults)
view_put files new input output sealed faults name bytes put keeps first = record {
  there = put.there;
  others = put.others;
  rest = rw (output_put files new keeps output first) refl;
}

-- the places still hold where a list keeps them
pub places_kept : (files new : List Entry) (input : Option (ℕ × ℕ)) (output : Option ℕ)
    → KeepsPlaces files new → ForSome input (λ p. p.0 < length files) → ForSome output (IsFirst files)
    → ForSome input (λ p. p.0 < length new) × ForSome output (IsFirst new)
places_kept files new input output keeps there first = (λ p e. more p.0 (there p e) keeps.longer, λ i e. keeps.firsts i (first i e))
  where
    more : (k : ℕ) → k < length files → length files ≤ length new → k < length new
    more k a b = omega arith

-- What each call of a store in memory does, over plain lists.
use Rattle.std.proofs.Common.{◌≡◌, ◌∙◌, refl, arith, ℕ, ◌<◌, ◌≤◌, List, [], ◌++◌, length, Bool, true, false, Option, Some, None, length-set, Result, Ok, Err, inl, inr, ◌⊎◌, IsTrue}
use Rattle.std.specs.Option.{ForSome}
use Rattle.std.specs.Result.{is_ok, OnOk}
use Rattle.offer_io.specs.Causes.{Rose}
use Rattle.offer_io.specs.Stores.{Appends, Creates}
use Rattle.offer_io.specs.declared.entries.Entry.{Entry}
use Rattle.offer_io.specs.Entries.{content_of, content_at, name_at, IsFirst, IsWritten, IsAdded}
use Rattle.offer_io.specs.MemoryStores.{shelf_view}
use Rattle.offer_io.proofs.EntryLemmas.{others_added, content_added, name_added, first_added, nothing_grew, piece_grew, others_written, content_written, first_written, name_after}

-- An append that fails at once.
pub append_stays : {T E : Type 0} (files : List Entry) (input : Option (ℕ × ℕ)) (output : Option ℕ) (sealed : Bool) (place before now : ℕ) (piece : List ℕ) (e : E)
    → output ≡ Some place → IsFirst files place → before ≤ now → Rose before now
    → Appends {T = T} {E = E} (shelf_view files input output sealed before) piece (Err e) (shelf_view files input output sealed now)
append_stays files input output sealed place before now piece e is first later rose = rw is (record {
  others = λ _ other differs. refl;
  output = λ _. refl;
  whole = λ _. tt;
  part = λ _. nothing_grew files place piece first;
  reading = refl;
  writing = refl;
  sealed = refl;
  cause = record { later = later; failed = rose };
  ready = λ h. cc;
  stays = record { tells = refl; steady = refl; held = refl };
})

-- An append that adds its piece.
pub append_grows : {T E : Type 0} (files new : List Entry) (input : Option (ℕ × ℕ)) (output : Option ℕ) (sealed : Bool) (place faults : ℕ) (piece : List ℕ) (t : T)
    → output ≡ Some place → IsFirst files place → IsWritten files place new (content_at files place ++ piece)
    → Appends {T = T} {E = E} (shelf_view files input output sealed faults) piece (Ok t) (shelf_view new input output sealed faults)
append_grows files new input output sealed place faults piece t is first written = rw is (record {
  others = λ _ other differs. others_written files new place _ other first.inside written differs;
  output = λ _. name_after files new place _ first written;
  whole = λ _. piece_grew files new place piece first written;
  part = λ _. tt;
  reading = refl;
  writing = refl;
  sealed = refl;
  cause = record { later = omega arith; failed = tt };
  ready = λ h. cc;
  stays = record { tells = refl; steady = refl; held = refl };
})

-- An append that finds no memory.
pub append_fails : {T E : Type 0} (files new : List Entry) (input : Option (ℕ × ℕ)) (output : Option ℕ) (sealed : Bool) (place before now : ℕ) (piece : List ℕ) (e : E)
    → output ≡ Some place → IsFirst files place → IsWritten files place new (content_at files place ++ [])
    → before ≤ now → Rose before now
    → Appends {T = T} {E = E} (shelf_view files input output sealed before) piece (Err e) (shelf_view new input output sealed now)
append_fails files new input output sealed place before now piece e is first written later rose = rw is (record {
  others = λ _ other differs. others_written files new place _ other first.inside written differs;
  output = λ _. name_after files new place _ first written;
  whole = λ _. tt;
  part = λ _. (0, piece_grew files new place [] first written);
  reading = refl;
  writing = refl;
  sealed = refl;
  cause = record { later = later; failed = rose };
  ready = λ h. cc;
  stays = record { tells = refl; steady = refl; held = refl };
})

-- the places still hold after a write
pub places_stay : (files new : List Entry) (input : Option (ℕ × ℕ)) (output : Option ℕ) (place : ℕ) (bytes : List ℕ)
    → output ≡ Some place → IsFirst files place → IsWritten files place new bytes
    → ForSome input (λ p. p.0 < length files)
    → ForSome input (λ p. p.0 < length new) × ForSome output (IsFirst new)
places_stay files new input output place bytes is first written there =
    let long : length new ≡ length files = rw written.files (length-set {A = Entry} files place written.file) in
    (λ p e. rw long (there p e), λ i e. same i e)
  where
    same : (i : ℕ) → output ≡ Some i → IsFirst new i
    same i e =
        let k : place ≡ i = cc in
        rw (← k) (first_written files new place bytes first written)

-- A create in place of a file that is there.
pub create_empties : {T E : Type 0} (files new : List Entry) (input : Option (ℕ × ℕ)) (output : Option ℕ) (sealed : Bool) (place faults : ℕ) (name : List ℕ) (t : T)
    → name_at files place ≡ name → IsFirst files place → IsWritten files place new []
    → Creates {T = T} {E = E} (shelf_view files input output sealed faults) name (Ok t) (shelf_view new input (Some place) false faults)
create_empties files new input output sealed place faults name t is first written = record {
  others = λ _ other differs. others_written files new place _ other first.inside written (λ e. differs (e ∙ is));
  made = λ _. (rw (← is) (content_written files new place [] first written), name_after files new place [] first written ∙ is);
  failed = λ _. tt;
  reading = refl;
  writing = refl;
  sealed = refl;
  cause = record { later = omega arith; failed = tt };
  ready = λ h. cc;
  stays = record { tells = refl; steady = refl; held = refl };
}

-- A create of a new name.
pub create_adds : {T E : Type 0} (files new : List Entry) (input : Option (ℕ × ℕ)) (output : Option ℕ) (sealed : Bool) (faults : ℕ) (name : List ℕ) (t : T)
    → content_of files name ≡ None → IsAdded files name [] new
    → Creates {T = T} {E = E} (shelf_view files input output sealed faults) name (Ok t) (shelf_view new input (Some (length files)) false faults)
create_adds files new input output sealed faults name t none added = record {
  others = λ _ other differs. others_added files new name [] other added differs;
  made = λ _. (content_added files new name [] none added, name_added files new name [] added);
  failed = λ _. tt;
  reading = refl;
  writing = refl;
  sealed = refl;
  cause = record { later = omega arith; failed = tt };
  ready = λ h. cc;
  stays = record { tells = refl; steady = refl; held = refl };
}

-- The places still hold after a new file, and its place is the first of its name.
pub places_after_adding : (files new : List Entry) (name : List ℕ) (input : Option (ℕ × ℕ))
    → content_of files name ≡ None → IsAdded files name [] new
    → ForSome input (λ p. p.0 < length files)
    → ForSome input (λ p. p.0 < length new) × ForSome (Some (length files)) (IsFirst new)
places_after_adding files new name input none added there =
    let first = first_added files new name [] none added in
    (λ p e. more p.0 (there p e) first.inside, λ i e. same i e)
  where
    more : (k : ℕ) → k < length files → length files < length new → k < length new
    more k a b = omega arith

    same : (i : ℕ) → Some (length files) ≡ Some i → IsFirst new i
    same i e =
        let k : length files ≡ i = cc in
        rw (← k) (first_added files new name [] none added)

-- What is promised at Ok, where the result is known to be one.
pub of_ok : {T E : Type 0} (r : Result T E) (P : Type 0) → is_ok r ≡ true → OnOk r P → P
of_ok (Ok t) P good h = h
of_ok (Err e) P good h = cc

-- a call that isn't given to fail, on a file that is there, has no cause to fail
pub opens_well : (given : Bool) (file : Option (List ℕ)) (content : List ℕ) → given ≡ false
    → file ≡ Some content
    → (IsTrue given ⊎ (file ≡ None)) → ⊥
opens_well given file content spared there (inl trips) = cc
opens_well given file content spared there (inr missing) = cc

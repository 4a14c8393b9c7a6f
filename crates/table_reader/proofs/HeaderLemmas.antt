-- How a header is gone through from the left.
use Rattle.std.proofs.Common.{◌≡◌, ◌≢◌, ◌∙◌, sym, ap, subst, refl, arith, ℕ, zero, suc, ◌+◌, ◌<◌, ◌==◌, List, [], ◌∷◌, ◌++◌, length, map, take, drop, set, get_or, slice_get, Bool, true, false, Some, None, is_some, ◌⊎◌, inl, inr}
use Rattle.std.specs.List.{position}
use Rattle.std.specs.Prelude.{replicate}
use Rattle.std.specs.Bool.{Decides}
use Rattle.std.specs.Str.{bytes_eq}
use Rattle.std.proofs.lemmas.List.{ext_get_or, get_or-map, get_or-set_same, get_or-set_other, length-map, length-set, length-take-le, take_more, drop_more}
use Rattle.std.proofs.lemmas.Bool.Decides.{Decides-eqb}
use Rattle.std.proofs.lemmas.List.Folds.{list_any_at}
use Rattle.std.proofs.lemmas.List.Quantifiers.{position-Some}
use Rattle.std.proofs.lemmas.Option.{get_or_from_slice_get}
use Rattle.std.proofs.lemmas.Slice.Eq.{bytes_eq-Decides}
use Rattle.table_reader.specs.Tables.{AreDistinct, header_of, is_among, places_of}
use Rattle.table_reader.specs.TableFaults.{header_fault_after}
use Rattle.table_reader.specs.declared.faults.TableFault.TheVariants.{UnknownColumn, RepeatedColumn}
use Rattle.table_reader.proofs.PositionLemmas.{position_kept, position_new, position_there}

false_true : false ≡ true → ⊥
false_true e = cc

-- Names at two places differ.
distinct_at : (names : List (List ℕ)) (i j : ℕ) → AreDistinct names → i < j → j < length names → get_or names i [] ≡ get_or names j [] → ⊥
distinct_at [] i j once less inside same = omega arith
distinct_at (x ∷ xs) i zero once less inside same = omega arith
distinct_at (x ∷ xs) zero (suc j) once less inside same =
    false_true (sym once.0 ∙ list_any_at (bytes_eq x) xs j [] (omega arith) ((bytes_eq-Decides x (get_or xs j [])).1 same))
distinct_at (x ∷ xs) (suc i) (suc j) once less inside same = distinct_at xs i j once.1 (omega arith) (omega arith) same

-- So only one name is a given text.
other_name : (names : List (List ℕ)) (i c : ℕ) → AreDistinct names → i < length names → c < length names → i ≢ c
    → bytes_eq (get_or names i []) (get_or names c []) ≡ false
other_name names i c once inside there differ =
    not_true _ (λ here. by_order (less_or_more i c differ) ((bytes_eq-Decides (get_or names i []) (get_or names c [])).0 here))
  where
    not_true : (b : Bool) → (b ≡ true → ⊥) → b ≡ false
    not_true true h = absurd (h refl)
    not_true false h = refl

    less_or_more : (i c : ℕ) → i ≢ c → (i < c) ⊎ (c < i)
    less_or_more zero zero differ = absurd (differ refl)
    less_or_more zero (suc c) differ = inl (omega arith)
    less_or_more (suc i) zero differ = inr (omega arith)
    less_or_more (suc i) (suc c) differ = elim (less_or_more i c (λ same. differ (ap suc same))) [ inl less ↦ inl (omega arith) | inr more ↦ inr (omega arith) ]

    by_order : (i < c) ⊎ (c < i) → get_or names i [] ≡ get_or names c [] → ⊥
    by_order (inl less) same = distinct_at names i c once less there same
    by_order (inr more) same = distinct_at names c i once more inside (sym same)

-- No column has a place among no fields.
pub no_places : (n : ℕ) (names : List (List ℕ)) → length names ≡ n → replicate n None ≡ places_of names []
no_places zero [] count = refl
no_places zero (x ∷ xs) count = absurd (omega arith)
no_places (suc n) [] count = absurd (omega arith)
no_places (suc n) (x ∷ xs) count = ap (λ rest. None ∷ rest) (no_places n xs (omega arith))

-- No header is there where no record is.
pub no_header : {E : Type 0} (fields : E → List (List ℕ)) (entries : List E) → slice_get entries 0 ≡ None → header_of (map fields entries) ≡ []
no_header fields [] none = refl
no_header fields (e ∷ entries) none = cc

-- A column's name stands in a header where the column has a place.
pub repeated : (names passed : List (List ℕ)) (field : List ℕ) (c : ℕ) → position (bytes_eq field) names ≡ Some c
    → is_some (get_or (places_of names passed) c None) ≡ is_among field passed
repeated names passed field c at =
    let found = position-Some (bytes_eq field) names c [] at in
    let same = (bytes_eq-Decides field (get_or names c [])).0 found.1 in
    rw (get_or-map (λ name. position (bytes_eq name) passed) names c [] None found.0, ← same, position_there (bytes_eq field) passed) refl

same_or_other : (i c : ℕ) → (i ≡ c) ⊎ (i ≢ c)
same_or_other i c = by_test (i ≡ c) (i == c) (Decides-eqb i c)
  where
    by_test : (P : Type 0) (b : Bool) → Decides b P → P ⊎ (P → ⊥)
    by_test P true d = inl (d.0 refl)
    by_test P false d = inr (λ h. false_true (d.1 h))

-- A column that is new has its place last, and the others have theirs.
pub placed : (names passed : List (List ℕ)) (field : List ℕ) (c : ℕ) → AreDistinct names → position (bytes_eq field) names ≡ Some c
    → is_among field passed ≡ false → set (places_of names passed) c (Some (length passed)) ≡ places_of names (passed ++ field ∷ [])
placed names passed field c once at new = ext_get_or None _ _ lengths each
  where
    name : ℕ → List ℕ
    name i = get_or names i []

    found : (c < length names) × (bytes_eq field (get_or names c []) ≡ true)
    found = let there = position-Some (bytes_eq field) names c [] at in (there.0, there.1)

    is_name : field ≡ get_or names c []
    is_name = (bytes_eq-Decides field (get_or names c [])).0 found.1

    lengths : length (set (places_of names passed) c (Some (length passed))) ≡ length (places_of names (passed ++ field ∷ []))
    lengths = rw (length-set, length-map, length-map) refl

    after : (i : ℕ) → i < length names → get_or (places_of names (passed ++ field ∷ [])) i None ≡ position (bytes_eq (get_or names i [])) (passed ++ field ∷ [])
    after i inside = get_or-map (λ name. position (bytes_eq name) (passed ++ field ∷ [])) names i [] None inside

    here : get_or (set (places_of names passed) c (Some (length passed))) c None ≡ get_or (places_of names (passed ++ field ∷ [])) c None
    here =
        let inside : c < length (places_of names passed) = rw length-map found.0 in
        let self = (bytes_eq-Decides field field).1 refl in
        rw (get_or-set_same (places_of names passed) c (Some (length passed)) None inside, after c found.0, ← is_name, position_new (bytes_eq field) passed field new self) refl

    there : (i : ℕ) → i < length names → i ≢ c → get_or (set (places_of names passed) c (Some (length passed))) i None ≡ get_or (places_of names (passed ++ field ∷ [])) i None
    there i inside differ =
        let miss : bytes_eq (get_or names i []) field ≡ false = rw is_name (other_name names i c once inside found.0 differ) in
        rw (get_or-set_other (places_of names passed) c i (Some (length passed)) None differ, after i inside, position_kept (bytes_eq (get_or names i [])) passed field miss)
        (get_or-map (λ name. position (bytes_eq name) passed) names i [] None inside)

    each : (i : ℕ) → i < length (set (places_of names passed) c (Some (length passed)))
        → get_or (set (places_of names passed) c (Some (length passed))) i None ≡ get_or (places_of names (passed ++ field ∷ [])) i None
    each i inside =
        let within : i < length names = rw (length-set, length-map) at inside in
        elim (same_or_other i c) [
          | inl same ↦ subst (λ (k : ℕ). get_or (set (places_of names passed) c (Some (length passed))) k None ≡ get_or (places_of names (passed ++ field ∷ [])) k None) (sym same) here
          | inr differ ↦ there i within differ
        ]

-- What the field at a place adds.
module _ (names fields : List (List ℕ)) (place : ℕ) (field : List ℕ) (inside : place < length fields) (at : slice_get fields place ≡ Some field) where
  passed : take (place + 1) fields ≡ take place fields ++ field ∷ []
  passed = rw (take_more fields place field inside, get_or_from_slice_get fields place field field at) refl

  left : drop place fields ≡ field ∷ drop (place + 1) fields
  left = drop_more fields place field inside ∙ ap (λ f. f ∷ drop (place + 1) fields) (get_or_from_slice_get fields place field field at)

  count : length (take place fields) ≡ place
  count = length-take-le place fields (omega arith)

  -- The field is no column's name.
  pub unknown_at : position (bytes_eq field) names ≡ None → header_fault_after names (take place fields) (drop place fields) ≡ Some (UnknownColumn place)
  unknown_at none =
      let missing : is_among field names ≡ false = sym (position_there (bytes_eq field) names) ∙ ap is_some none in
      rw (left, missing, count) refl

  module _ (c : ℕ) (column : position (bytes_eq field) names ≡ Some c) where
    known : is_among field names ≡ true
    known = sym (position_there (bytes_eq field) names) ∙ ap is_some column

    -- The field is the name of a column that has its place.
    pub repeated_at : is_some (get_or (places_of names (take place fields)) c None) ≡ true
        → header_fault_after names (take place fields) (drop place fields) ≡ Some (RepeatedColumn place)
    repeated_at again =
        let among = sym (repeated names (take place fields) field c column) ∙ again in
        rw (left, known, among, count) refl

    -- The field is the name of a column that is new.
    pub passed_at : is_some (get_or (places_of names (take place fields)) c None) ≡ false
        → header_fault_after names (take place fields) (drop place fields) ≡ header_fault_after names (take (place + 1) fields) (drop (place + 1) fields)
    passed_at fresh =
        let new = sym (repeated names (take place fields) field c column) ∙ fresh in
        rw (left, known, new, passed) refl

    pub placed_at : AreDistinct names → is_some (get_or (places_of names (take place fields)) c None) ≡ false
        → set (places_of names (take place fields)) c (Some place) ≡ places_of names (take (place + 1) fields)
    placed_at once fresh =
        let new = sym (repeated names (take place fields) field c column) ∙ fresh in
        rw (passed, ← placed names (take place fields) field c once column new, count) refl

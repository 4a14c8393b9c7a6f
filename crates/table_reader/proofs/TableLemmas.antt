-- The rows of a table.
use Rattle.std.proofs.Common.{◌≡◌, ◌∙◌, sym, ap, refl, arith, ℕ, ◌+◌, ◌<◌, ◌==◌, List, [], length, map, drop, get_or, slice_get, All, Bool, true, false, not, Option, Some, None, IfSome, option_map, IsSome, is_none, ◌&&◌, zip}
use Rattle.std.specs.Option.{option_or}
use Rattle.std.specs.List.{position}
use Rattle.std.specs.Str.{bytes_eq}
use Rattle.std.proofs.lemmas.Bool.Decides.{nat_tests}
use Rattle.std.proofs.lemmas.Grind.{get_or_after_one}
use Rattle.std.proofs.lemmas.List.{get_or-map, length-map, length-drop}
use Rattle.std.proofs.lemmas.List.Quantifiers.{position-Some}
use Rattle.std.proofs.lemmas.Slice.Zip.{get_or-zip, length-zip}
use Rattle.std.proofs.lemmas.Option.{get_or_from_slice_get, slice_get_within}
use Rattle.table_reader.specs.Tables.{TableData, HasNeeded, HasEachColumn, IsTable, header_of, places_of, table_of, place_of, field_of}
use Rattle.table_reader.specs.TableFaults.{header_fault, first_missing, first_other_length, first_fault}
use Rattle.table_reader.specs.declared.faults.TableFault.{TableFault}
use Rattle.table_reader.specs.declared.faults.TableFault.TheVariants.{MissingColumn, FieldCount}
use Rattle.table_reader.proofs.PositionLemmas.{position_nowhere}

-- A data row holds the fields of the record one further.
pub row_fields : {E : Type 0} (fields : E → List (List ℕ)) (entries : List E) (row : ℕ) (entry : E) → row + 1 < length entries
    → entry ≡ get_or entries (row + 1) entry → get_or (drop 1 (map fields entries)) row [] ≡ fields entry
row_fields fields entries row entry inside at =
    let shift : 1 + row ≡ row + 1 = omega arith in
    rw (get_or_after_one (map fields entries) row [], shift, get_or-map fields entries (row + 1) entry [] inside) (ap fields (sym at))

-- A data row has a field at the place of a column that is there.
pub has_place : (places : List (Option ℕ)) (records : List (List (List ℕ))) (row c p : ℕ) → All (HasEachColumn places) records
    → row < length records → slice_get places c ≡ Some (Some p) → p < length (get_or records row [])
has_place places records row c p each inside at =
    let there = slice_get_within places c (Some p) at in
    rw (get_or_from_slice_get places c (Some p) None at) at (each row [] inside c None there)

-- The field of a data row at the place of a column.
pub row_field : (table : TableData) (row c p : ℕ) (fields : List (List ℕ)) (value : List ℕ) → slice_get table.places c ≡ Some (Some p)
    → get_or table.records row [] ≡ fields → slice_get fields p ≡ Some value → Some value ≡ field_of table row c
row_field table row c p fields value at here is = rw (get_or_from_slice_get table.places c (Some p) None at, here, is) refl

-- A column that is there isn't absent.
pub not_absent : (table : TableData) (c p : ℕ) → slice_get table.places c ≡ Some (Some p) → place_of table c ≡ None → ⊥
not_absent table c p at absent = apart (sym (get_or_from_slice_get table.places c (Some p) None at) ∙ absent)
  where
    apart : Some p ≡ None → ⊥
    apart e = cc

-- Where each record is as long as the header, each data row has a field in each column that is there.
pub fits_columns : (names : List (List ℕ)) (records : List (List (List ℕ))) → first_other_length (length (header_of records)) records ≡ None
    → IsTable (table_of names records)
fits_columns names records same row d inside c e there =
    let header : List (List ℕ) = header_of records in
    let within : 1 + row < length records = omega (arith, inside, length-drop 1 records) in
    let long = position_nowhere (λ fields. not (length fields == length header)) records (1 + row) d same within in
    let column : c < length names = rw length-map at there in
    rw (get_or-map (λ name. position (bytes_eq name) header) names c [] e column, get_or_after_one records row d)
    (within_header (bytes_eq (get_or names c [])) header (length (get_or records (1 + row) d)) (equal _ _ long))
  where
    equal : (a b : ℕ) → not (a == b) ≡ false → a ≡ b
    equal a b h = grind (arith, nat_tests)

    within_header : (p : List ℕ → Bool) (header : List (List ℕ)) (n : ℕ) → n ≡ length header → IfSome (position p header) (λ k. k < n)
    within_header p header n long = by_place (position p header) refl
      where
        by_place : (place : Option ℕ) → position p header ≡ place → IfSome place (λ k. k < n)
        by_place None at = tt
        by_place (Some k) at = let found = position-Some p header k [] at in omega arith

-- The faults after those of the header.
module _ (names : List (List ℕ)) (needed : List Bool) (records : List (List (List ℕ)))
    (header : header_fault names (header_of records) ≡ None) (columns : first_missing (places_of names (header_of records)) needed ≡ None) where
  pub row_fault : (k : ℕ) → first_other_length (length (header_of records)) records ≡ Some k → first_fault names needed records ≡ Some (FieldCount (k + 1))
  row_fault k other = rw (header, columns, other) refl

  pub no_fault : first_other_length (length (header_of records)) records ≡ None → first_fault names needed records ≡ None
  no_fault other = rw (header, columns, other) refl

-- Where there is no fault, each record is as long as the header.
pub same_lengths : (names : List (List ℕ)) (needed : List Bool) (records : List (List (List ℕ))) → first_fault names needed records ≡ None
    → first_other_length (length (header_of records)) records ≡ None
same_lengths names needed records none =
    last_of (header_fault names (header_of records)) (first_missing (places_of names (header_of records)) needed)
    (first_other_length (length (header_of records)) records) none
  where
    last_of : (h : Option TableFault) (m k : Option ℕ) → option_or h (option_or (option_map MissingColumn m) (option_map (λ i. FieldCount (i + 1)) k)) ≡ None → k ≡ None
    last_of None None None e = refl
    last_of None None (Some k) e = cc
    last_of None (Some c) k e = cc
    last_of (Some f) m k e = cc

-- Where no needed column is missing, each is there.
pub needed_there : (names : List (List ℕ)) (needed : List Bool) (records : List (List (List ℕ))) → length names ≡ length needed
    → first_fault names needed records ≡ None → HasNeeded needed (table_of names records)
needed_there names needed records count none c need =
    let places = places_of names (header_of records) in
    let within = slice_get_within needed c true need in
    let inside : c < length places = rw length-map (omega arith) in
    let both : c < length (zip places needed) = rw (length-zip places needed) (omega arith) in
    let there = position_nowhere (λ column. is_none column.0 && column.1) (zip places needed) c (None, false) (none_missing none) both in
    is_there (get_or places c None) (rw (get_or-zip places needed c (None, false) inside within, get_or_from_slice_get needed c true false need) at there)
  where
    middle_of : (h : Option TableFault) (m k : Option ℕ) → option_or h (option_or (option_map MissingColumn m) (option_map (λ i. FieldCount (i + 1)) k)) ≡ None → m ≡ None
    middle_of None None None e = refl
    middle_of None None (Some k) e = cc
    middle_of None (Some c) k e = cc
    middle_of (Some f) m k e = cc

    none_missing : first_fault names needed records ≡ None → first_missing (places_of names (header_of records)) needed ≡ None
    none_missing none = middle_of (header_fault names (header_of records)) _ (first_other_length (length (header_of records)) records) none

    is_there : (place : Option ℕ) → (is_none place && true) ≡ false → IsSome place
    is_there None h = sym h
    is_there (Some p) h = refl

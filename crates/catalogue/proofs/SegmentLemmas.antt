-- What the rows of a segments file say, one row after another.
use Rattle.std.proofs.Common.{◌≡◌, ◌∙◌, ◌≢◌, sym, ap, refl, arith, ℕ, zero, suc, ◌+◌, ◌*◌, ◌<◌, ◌≤◌, ◌&&◌, ◌⊎◌, ◌++◌, inl, inr, List, [], ◌∷◌, length, map, set, replicate, get_or, slice_index, Bool, true, false, nat_lt, nat_le, Option, Some, None, option_map, unwrap_or, is_some, IfSome, All}
use Rattle.std.specs.List.{filter, list_any, position, range_with_len, AllPairs}
use Rattle.std.specs.Str.{bytes_eq}
use Rattle.std.proofs.lemmas.Bool.{cases_eq, false_from_ne_true}
use Rattle.std.proofs.lemmas.Bool.Decides.{nat_tests}
use Rattle.std.proofs.lemmas.List.{get_or-map, get_or-set_same, get_or-set_other, length-map, length-replicate, length-set, map-id, append-nil, same_lists}
use Rattle.std.proofs.lemmas.List.Elements.{filter-append, All-head, All-tail, All-map}
use Rattle.std.proofs.lemmas.List.Folds.{list_any_none, fold-map}
use Rattle.std.proofs.lemmas.List.FromFn.{length-range_with_len, get_or-range_with_len, map-range_with_len_more}
use Rattle.std.proofs.lemmas.List.Quantifiers.{position-Some}
use Rattle.std.proofs.lemmas.Slice.Eq.{bytes_eq-Decides}
use Rattle.offer_model.specs.declared.ranges.TheConstants.{MOST_AMOUNT, MOST_SEGMENTS}
use Rattle.offer_model.specs.Problems.{shadow_of}
use Rattle.offer_model.specs.Validity.{IsPositiveAmount, IsSegment}
use Rattle.table_reader.specs.Tables.{TableData}
use Rattle.table_reader.proofs.PositionLemmas.{position_there, position_kept, position_new}
use Rattle.catalogue_rows.specs.Cells.{range_fault}
use Rattle.catalogue_rows.specs.Rows.{RowData}
use Rattle.catalogue.specs.Drafts.{DraftData, IsDraft, segment_drafted}
use Rattle.catalogue.specs.SegmentTables.{segment_text, row_size, row_weight, is_head, heads_before, sizes_before, names_pair, attraction_before, attractions_before, segment_begun, segments_of, NamedSegment}
use Rattle.catalogue.specs.SegmentDrafts.{draft_begun, drafts_before}
use Rattle.catalogue.specs.CatalogueProblems.{FitSegments}
use Rattle.catalogue_rows.proofs.FaultLemmas.{no_fault_else}

-- A number from 1 without a fault is in its range.
pub positive_amount : (o : Option ℕ) → range_fault 1 MOST_AMOUNT o ≡ None → IsPositiveAmount (unwrap_or o 0)
positive_amount None clean = cc
positive_amount (Some n) clean =
    let inside : (nat_le 1 n && nat_le n MOST_AMOUNT) ≡ true = no_fault_else _ _ clean in
    (grind (arith, nat_tests), grind (arith, nat_tests))

-- Two functions that agree at each element of a list.
pub map_agree : {X Y : Type 0} (f g : X → Y) (xs : List X) → All (λ x. f x ≡ g x) xs → map f xs ≡ map g xs
map_agree f g [] agree = refl
map_agree f g (x ∷ xs) agree =
    let rest : map f xs ≡ map g xs = map_agree f g xs (λ k d inside. agree (suc k) d (omega arith)) in
    let first : f x ≡ g x = agree 0 x (omega arith) in
    λ i. first i ∷ rest i

-- Where one element of a list has the key, and only its value changes.
pub set_at_key : {X Y : Type 0} (key : X → List ℕ) (f g : X → Y) (xs : List X) (text : List ℕ) (i : ℕ) (v : Y) (none : X)
    → AllPairs (λ a b. key a ≢ key b) xs → position (bytes_eq text) (map key xs) ≡ Some i
    → ((x : X) → bytes_eq text (key x) ≡ false → g x ≡ f x) → g (get_or xs i none) ≡ v → set (map f xs) i v ≡ map g xs
set_at_key {X} {Y} key f g xs text i v none once at rest here =
    same_lists (set (map f xs) i v) (map g xs) (length-set (map f xs) i v ∙ length-map xs f ∙ sym (length-map xs g)) by_place
  where
    found : (i < length (map key xs)) × (bytes_eq text (get_or (map key xs) i []) ≡ true) × ((k : ℕ) → k < i → bytes_eq text (get_or (map key xs) k []) ≡ false)
    found = position-Some (bytes_eq text) (map key xs) i [] at

    inside_keys : i < length xs
    inside_keys = omega (arith, found.0, length-map xs key)

    same_key : key (get_or xs i none) ≡ text
    same_key = sym (get_or-map key xs i none [] inside_keys) ∙ sym ((bytes_eq-Decides text (get_or (map key xs) i [])).0 found.1)

    other : (j : ℕ) → j < length xs → (j ≡ i → ⊥) → bytes_eq text (key (get_or xs j none)) ≡ false
    other j below differs = false_from_ne_true _ (λ same.
        let keys : key (get_or xs i none) ≡ key (get_or xs j none) = same_key ∙ (bytes_eq-Decides text (key (get_or xs j none))).0 same in
        by_order (nat_lt j i) refl keys)
      where
        by_order : (b : Bool) → nat_lt j i ≡ b → key (get_or xs i none) ≡ key (get_or xs j none) → ⊥
        by_order true less keys = once j i none (grind (arith, nat_tests)) inside_keys (sym keys)
        by_order false more keys = once i j none (grind (arith, nat_tests)) below keys

    by_place : (j : ℕ) (d : Y) → j < length (set (map f xs) i v) → get_or (set (map f xs) i v) j d ≡ get_or (map g xs) j d
    by_place j d inside = by_cases (cases_eq j i)
      where
        below : j < length xs
        below = omega (arith, inside, length-set (map f xs) i v, length-map xs f)

        by_cases : (j ≡ i) ⊎ (j ≡ i → ⊥) → get_or (set (map f xs) i v) j d ≡ get_or (map g xs) j d
        by_cases (inl same) =
            ap (λ n. get_or (set (map f xs) i v) n d) same
            ∙ get_or-set_same (map f xs) i v d (omega (arith, inside_keys, length-map xs f))
            ∙ sym here ∙ sym (get_or-map g xs i none d inside_keys) ∙ ap (λ n. get_or (map g xs) n d) (sym same)
        by_cases (inr differs) =
            get_or-set_other (map f xs) i j v d differs ∙ get_or-map f xs j none d below
            ∙ sym (rest (get_or xs j none) (other j below differs)) ∙ sym (get_or-map g xs j none d below)

-- One more row.
pub range_more : (k : ℕ) → range_with_len 0 (k + 1) ≡ range_with_len 0 k ++ k ∷ []
range_more k =
    sym (map-id (range_with_len 0 (k + 1))) ∙ map-range_with_len_more (λ (n : ℕ). n) 0 k k (omega arith)
    ∙ ap (λ ns. ns ++ k ∷ []) (map-id (range_with_len 0 k))

module _ (table : TableData) (k : ℕ) where
  -- A head is one more, and another row is none.
  pub heads_more : is_head table k ≡ true → heads_before table (k + 1) ≡ heads_before table k ++ k ∷ []
  heads_more head = ap (filter (is_head table)) (range_more k) ∙ filter-append (is_head table) (range_with_len 0 k) (k ∷ []) ∙ rw head refl

  pub heads_kept : is_head table k ≡ false → heads_before table (k + 1) ≡ heads_before table k
  heads_kept pair =
      ap (filter (is_head table)) (range_more k) ∙ filter-append (is_head table) (range_with_len 0 k) (k ∷ []) ∙ rw pair (append-nil (heads_before table k))

  -- A row that doesn't name a segment and a product says nothing of them.
  pub attraction_kept : (segment product : List ℕ) → names_pair table segment product k ≡ false
      → attraction_before table (k + 1) segment product ≡ attraction_before table k segment product
  attraction_kept segment product other =
      ap (option_map (row_weight table))
      (ap (position (names_pair table segment product)) (range_more k) ∙ position_kept (names_pair table segment product) (range_with_len 0 k) k other)

  -- The first row that names them says the attraction.
  pub attraction_new : (segment product : List ℕ) → names_pair table segment product k ≡ true
      → attraction_before table k segment product ≡ None
      → attraction_before table (k + 1) segment product ≡ Some (row_weight table k)
  attraction_new segment product here none =
      ap (option_map (row_weight table))
      (ap (position (names_pair table segment product)) (range_more k)
      ∙ position_new (names_pair table segment product) (range_with_len 0 k) k missed here)
      ∙ ap (λ n. Some (row_weight table n)) (length-range_with_len 0 k)
    where
      unmapped : (o : Option ℕ) → option_map (row_weight table) o ≡ None → is_some o ≡ false
      unmapped None e = refl
      unmapped (Some n) e = cc

      missed : list_any (names_pair table segment product) (range_with_len 0 k) ≡ false
      missed = sym (position_there (names_pair table segment product) (range_with_len 0 k)) ∙ unmapped _ none

  -- No row says anything of a segment that none names.
  pub attraction_none : (segment product : List ℕ) → ((j : ℕ) → j < k → bytes_eq (segment_text table j) segment ≡ false)
      → attraction_before table k segment product ≡ None
  attraction_none segment product unnamed =
      ap (option_map (row_weight table)) (by_any (position (names_pair table segment product) (range_with_len 0 k))
      (position_there (names_pair table segment product) (range_with_len 0 k) ∙ missed))
    where
      missed : list_any (names_pair table segment product) (range_with_len 0 k) ≡ false
      missed = list_any_none (names_pair table segment product) (range_with_len 0 k) (λ j d inside.
          let below : j < k = omega (arith, inside, length-range_with_len 0 k) in
          let here : get_or (range_with_len 0 k) j d ≡ j = get_or-range_with_len 0 k j d below ∙ omega arith in
          let miss : bytes_eq (segment_text table j) segment ≡ false = unnamed j below in
          rw (here, miss) refl)

      by_any : (o : Option ℕ) → is_some o ≡ false → o ≡ None
      by_any None e = refl
      by_any (Some n) e = cc

-- No row past the end of zeros has another number.
pub zeros : (n i : ℕ) → slice_index (replicate n 0) i ≡ 0
zeros zero i = refl
zeros (suc n) zero = refl
zeros (suc n) (suc i) = zeros n i

-- What is written is in range, and 0 is.
said_in_range : (found : List (Option ℕ)) → All (λ o. IfSome o (λ v. v ≤ MOST_AMOUNT)) found → (i : ℕ)
    → slice_index (map (λ (o : Option ℕ). unwrap_or o 0) found) i ≤ MOST_AMOUNT
said_in_range [] each i = omega arith
said_in_range (o ∷ os) each zero = first o (All-head (λ (o : Option ℕ). IfSome o (λ v. v ≤ MOST_AMOUNT)) o os each)
  where
    first : (o : Option ℕ) → IfSome o (λ v. v ≤ MOST_AMOUNT) → unwrap_or o 0 ≤ MOST_AMOUNT
    first None small = omega arith
    first (Some v) small = small
said_in_range (o ∷ os) each (suc i) = said_in_range os (All-tail (λ (o : Option ℕ). IfSome o (λ v. v ≤ MOST_AMOUNT)) o os each) i

-- The segment of a draft is in range.
pub drafted_in_range : (draft : DraftData) → IsDraft draft → IsSegment (segment_drafted draft).segment
drafted_in_range draft valid = record {
  size = valid.size;
  none = valid.none;
  each = length-replicate (length draft.attract) 0 ∙ sym (length-map draft.attract (λ (o : Option ℕ). unwrap_or o 0));
  attraction = said_in_range draft.attract valid.attract;
  shadow = λ i. rw zeros (omega arith);
}

-- What two functions make of a list, one after the other.
map_twice : {X Y Z : Type 0} (f : Y → Z) (g : X → Y) (xs : List X) → map f (map g xs) ≡ map (λ x. f (g x)) xs
map_twice f g [] = refl
map_twice f g (x ∷ xs) = ap (λ rest. f (g x) ∷ rest) (map_twice f g xs)

module _ (rows : List RowData) (table : TableData) where
  -- After all rows the drafts are the segments.
  pub all_drafted : map segment_drafted (drafts_before rows table (length table.records)) ≡ segments_of rows table
  all_drafted =
      map_twice segment_drafted (draft_begun rows table (length table.records)) (heads_before table (length table.records))
      ∙ map_agree (λ k. segment_drafted (draft_begun rows table (length table.records) k)) (segment_begun rows table) (heads_before table (length table.records))
      (λ j d inside. same (get_or (heads_before table (length table.records)) j d))
    where
      same : (k : ℕ) → segment_drafted (draft_begun rows table (length table.records) k) ≡ segment_begun rows table k
      same k =
          let said = attractions_before rows table (length table.records) (segment_text table k) in
          ap (λ n. record {
            name = segment_text table k;
            segment = record {
              size = row_size table k;
              none = row_weight table k;
              attract = map (λ (found : Option ℕ). unwrap_or found 0) said;
              shadow = replicate n 0;
            };
          })
          (length-map rows (λ row. attraction_before table (length table.records) (segment_text table k) row.name))

  -- They fit, where each is in range and the file has no fault.
  pub segments_fit : (unit : ℕ) → IsPositiveAmount unit → length (heads_before table (length table.records)) ≤ MOST_SEGMENTS
      → sizes_before unit table (length table.records) ≤ MOST_AMOUNT → All (λ named. IsSegment named.segment) (segments_of rows table)
      → FitSegments rows unit (segments_of rows table)
  segments_fit unit some few small ranges =
      let heads = heads_before table (length table.records) in
      record {
        in_range = some;
        few = rw length-map few;
        ranges = ranges;
        each = All-map (λ named. length named.segment.attract ≡ length rows) (segment_begun rows table) heads (λ j d inside.
            let k = get_or heads j d in
            length-map (attractions_before rows table (length table.records) (segment_text table k)) (λ (found : Option ℕ). unwrap_or found 0)
            ∙ length-map rows (λ row. attraction_before table (length table.records) (segment_text table k) row.name));
        plain = All-map (λ named. (i : ℕ) → shadow_of named.segment i ≡ 0) (segment_begun rows table) heads (λ j d inside i. zeros (length rows) i);
        sizes = rw (fold-map (λ sum (named : NamedSegment). sum + named.segment.size * unit) (segment_begun rows table) 0 heads) small;
      }

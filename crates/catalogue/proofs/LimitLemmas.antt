-- What holds of a limits file without a fault.
use Rattle.std.proofs.Common.{true≢false, ◌≡◌, ◌∙◌, sym, ap, subst, refl, arith, add-one, ℕ, zero, suc, ◌+◌, ◌<◌, ◌≤◌, ◌&&◌, ◌++◌, List, [], ◌∷◌, length, map, get_or, cond, Bool, true, false, not, nat_lt, Option, Some, None, unwrap_or, All, count_by, Result, Ok, Err, IfOk, OnOk}
use Rattle.std.specs.List.{list_any}
use Rattle.std.specs.Str.{bytes_eq}
use Rattle.std.proofs.lemmas.Bool.Decides.{nat_tests}
use Rattle.std.proofs.lemmas.List.{length-map, get_or-map}
use Rattle.std.proofs.lemmas.List.Folds.{list_any_at}
use Rattle.std.proofs.lemmas.List.FromFn.{length-map-range_with_len, get_or-map-range_with_len, map-range_with_len_more}
use Rattle.std.proofs.lemmas.List.Quantifiers.{position-Some}
use Rattle.std.proofs.lemmas.List.Sums.{sum_by-append}
use Rattle.offer_model.specs.declared.products.Limit.{Limit}
use Rattle.offer_model.specs.declared.products.Limit.TheVariants as limit
use Rattle.offer_model.specs.declared.products.ModelName.{ModelName}
use Rattle.offer_model.specs.declared.products.Product.{Product}
use Rattle.offer_model.specs.declared.ranges.TheConstants.{MOST_COUNT, MOST_LIMITS, MOST_REQUIRES}
use Rattle.offer_model.specs.Numerals.{number_of}
use Rattle.offer_model.specs.Problems.{product_at, product_count, no_product}
use Rattle.offer_model.specs.Validity.{IsInRange, NamesExisting, Repeats, is_requires, HasLimits}
use Rattle.table_reader.specs.Tables.{TableData}
use Rattle.catalogue.specs.Columns.{first_column, second_column, number_column}
use Rattle.catalogue.specs.declared.limit_kinds.LimitKind.{LimitKind}
use Rattle.catalogue.specs.declared.limit_kinds.LimitKind.TheVariants.{Total, Category, Requires, Shelf, Ladder}
use Rattle.catalogue_rows.specs.declared.faults.FileName.TheVariants.{Limits}
use Rattle.catalogue_rows.specs.Faults.{first_row_fault}
use Rattle.catalogue_rows.specs.Cells.{text_of, written_number}
use Rattle.catalogue.specs.CatalogueProblems.{problem_data_of}
use Rattle.catalogue_rows.specs.Rows.{RowData, no_row, row_at, HasNumbers}
use Rattle.catalogue.specs.SegmentTables.{NamedSegment}
use Rattle.catalogue_rows.specs.Places.{product_named}
use Rattle.catalogue.specs.LimitTables.{kind_of_row, category_named, ladder_named, first_named, second_named, limit_by, limit_under, stated_limit, limits_before, repeats, line_fault, requires_fault, named_fault, cap_fault, repeated_fault, fields_fault, fault_of_kind, limit_fault}
use Rattle.catalogue_rows.proofs.FaultLemmas.{all_none, no_fault_if, no_fault_else, row_is_clean}
use Rattle.catalogue.proofs.LimitNameLemmas.{number_is_had}
use Rattle.catalogue_rows.proofs.ProductLemmas.{in_range}

-- Limits repeat each other both ways.
repeats_back : (a b : Limit) → Repeats a b → repeats b a ≡ true
repeats_back (limit.Total cap) (limit.Total other) same = refl
repeats_back (limit.Category c cap) (limit.Category d other) same = grind (arith, nat_tests)
repeats_back (limit.Requires a b) (limit.Requires c d) same = grind (arith, nat_tests)
repeats_back (limit.Shelf space) (limit.Shelf other) same = refl
repeats_back (limit.Ladder l) (limit.Ladder m) same = grind (arith, nat_tests)
repeats_back _ _ same = absurd same

-- One more limit.
pub requires_more : (limits : List Limit) (next : Limit) → count_by is_requires (limits ++ next ∷ []) ≡ count_by is_requires limits + cond (is_requires next) 1 0
requires_more limits next = sum_by-append (λ (x : Limit). cond (is_requires x) 1 0) limits (next ∷ []) ∙ omega arith

-- One more row states one more limit.
pub limits_more : (rows : List RowData) (table : TableData) (k : ℕ) → limits_before rows table (k + 1) ≡ limits_before rows table k ++ stated_limit rows table k ∷ []
limits_more rows table k = map-range_with_len_more (stated_limit rows table) 0 k k (omega arith)

held : (a b : Bool) → (a && not b) ≡ false → a ≡ true → b ≡ true
held true true e f = refl
held true false e f = cc
held false b e f = cc

-- A row without a fault has a kind and none in any of its parts.
pub record CleanLimit (rows : List RowData) (table : TableData) (k : ℕ) (kind : LimitKind) : Type 0 where
  pub kind_is : kind_of_row table k ≡ Some kind
  pub line : line_fault k ≡ None
  pub pairs : requires_fault rows table k ≡ None
  pub first : named_fault (first_named rows kind (text_of table k first_column)) ≡ None
  pub second : named_fault (second_named rows kind (text_of table k second_column)) ≡ None
  pub number : cap_fault kind (text_of table k number_column) ≡ None
  pub once : repeated_fault rows table k ≡ None

-- Of a row without a fault, nothing that its kind uses is wrong.
pub clean_limit : (rows : List RowData) (table : TableData) (k : ℕ) → limit_fault rows table k ≡ None → (kind : LimitKind) × CleanLimit rows table k kind
clean_limit rows table k clean =
    let parts = all_none (line_fault k ∷ fault_of_kind rows table k (kind_of_row table k) ∷ []) clean in
    by_kind parts.0 (kind_of_row table k) refl parts.1.0
  where
    by_kind : line_fault k ≡ None → (o : Option LimitKind) → kind_of_row table k ≡ o → fault_of_kind rows table k o ≡ None
        → (kind : LimitKind) × CleanLimit rows table k kind
    by_kind line None is none = cc
    by_kind line (Some kind) is none =
        let each = (all_none (requires_fault rows table k ∷ fields_fault rows table k kind ∷ repeated_fault rows table k ∷ []) none) in
        let fields = all_none (named_fault (first_named rows kind (text_of table k first_column))
        ∷ named_fault (second_named rows kind (text_of table k second_column)) ∷ cap_fault kind (text_of table k number_column) ∷ []) each.1.0 in (
          kind,
          record {
            kind_is = is;
            line = line;
            pairs = each.0;
            first = fields.0;
            second = fields.1.0;
            number = fields.1.1.0;
            once = each.1.1.0;
          },
        )

-- There is a place for it.
pub below_most : (rows : List RowData) (table : TableData) (k : ℕ) → limit_fault rows table k ≡ None → k < MOST_LIMITS
below_most rows table k clean =
    let below : nat_lt k MOST_LIMITS ≡ true = no_fault_else (nat_lt k MOST_LIMITS) _ (clean_limit rows table k clean).1.line in
    grind (arith, nat_tests)

-- What is named is there.
named_is_there : (o : Option ℕ) → named_fault o ≡ None → o ≡ Some (unwrap_or o 0)
named_is_there None none = cc
named_is_there (Some n) none = refl

-- The limit of a row without a fault is in range.
capped : (kind : LimitKind) (text : List ℕ) (first second : ℕ) → cap_fault kind text ≡ None → IsInRange (limit_by kind first second (written_number text))
capped Total text first second none = in_range MOST_COUNT (number_of text) none
capped Category text first second none = in_range MOST_COUNT (number_of text) none
capped Requires text first second none = tt
capped Shelf text first second none = in_range MOST_COUNT (number_of text) none
capped Ladder text first second none = tt

-- It names what there is.
module _ (rows : List RowData) (numbered : HasNumbers rows) (model : ModelName) (none unit : ℕ) (segments : List NamedSegment) (limits : List Limit) where
  product_of : (i : ℕ) → i < length rows → product_at (problem_data_of rows model none unit segments limits) i ≡ (row_at rows i).product
  product_of i inside = get_or-map (λ (row : RowData). row.product) rows i no_row no_product inside

  product_there : (text : List ℕ) (n : ℕ) → product_named rows text ≡ Some n → n < product_count (problem_data_of rows model none unit segments limits)
  product_there text n named =
      let found = position-Some (bytes_eq text) (map (λ (row : RowData). row.name) rows) n [] named in
      omega (arith, found.0, length-map rows (λ (row : RowData). row.name), length-map rows (λ (row : RowData). row.product))

  numbered_there : (f : Product → ℕ) (n : ℕ) → (1 ≤ n) × ((i : ℕ) × (i < length rows) × (f (row_at rows i).product ≡ n))
      → (1 ≤ n) × ((i : ℕ) × (i < product_count (problem_data_of rows model none unit segments limits))
      × (f (product_at (problem_data_of rows model none unit segments limits) i) ≡ n))
  numbered_there f n had =
      let i = had.1.0 in
      let inside : i < length rows = had.1.1 in (
        had.0,
        (i, omega (arith, inside, length-map rows (λ (row : RowData). row.product)), ap f (product_of i inside) ∙ had.1.2),
      )

  names_there : (kind : LimitKind) (first second : List ℕ) (number : ℕ) → named_fault (first_named rows kind first) ≡ None
      → named_fault (second_named rows kind second) ≡ None
      → NamesExisting (problem_data_of rows model none unit segments limits)
      (limit_by kind (unwrap_or (first_named rows kind first) 0) (unwrap_or (second_named rows kind second) 0) number)
  names_there Total first second number a b = tt
  names_there Category first second number a b =
      numbered_there (λ x. x.category) _ (number_is_had rows (λ row. row.category) (λ row. row.product.category)
      (λ k d inside. (numbered k d inside).0) first _ (named_is_there (category_named rows first) a))
  names_there Requires first second number a b =
      (product_there first _ (named_is_there (product_named rows first) a), product_there second _ (named_is_there (product_named rows second) b))
  names_there Shelf first second number a b = tt
  names_there Ladder first second number a b =
      numbered_there (λ x. x.ladder) _ (number_is_had rows (λ row. row.ladder) (λ row. row.product.ladder)
      (λ k d inside. (numbered k d inside).1) first _ (named_is_there (ladder_named rows first) a))

module _ (rows : List RowData) (table : TableData) (n : ℕ) (clean : (k : ℕ) → k < n → limit_fault rows table k ≡ None) where
  -- What holds of each data row's limit holds of each limit.
  each_limit : (P : Limit → Type 0) → ((k : ℕ) → k < n → P (stated_limit rows table k)) → All P (limits_before rows table n)
  each_limit P holds k d inside =
      let below : k < n = omega (arith, inside, length-map-range_with_len (stated_limit rows table) 0 n) in
      subst P (sym (get_or-map-range_with_len (stated_limit rows table) 0 n k k d below (omega arith))) (holds k below)

  few_rows : (m : ℕ) → m ≤ n → m ≤ MOST_LIMITS
  few_rows zero within = omega arith
  few_rows (suc m) within =
      let last = below_most rows table m (clean m (omega arith)) in
      omega arith

  few_pairs : (m : ℕ) → m ≤ n → count_by is_requires (limits_before rows table m) ≤ MOST_REQUIRES
  few_pairs zero within = omega arith
  few_pairs (suc m) within =
      let before = few_pairs m (omega arith) in
      let pairs = (clean_limit rows table m (clean m (omega arith))).1.pairs in
      subst (λ k. count_by is_requires (limits_before rows table k) ≤ MOST_REQUIRES) (add-one m)
      (by_next (is_requires (stated_limit rows table m)) refl before pairs)
    where
      next : count_by is_requires (limits_before rows table (m + 1))
          ≡ count_by is_requires (limits_before rows table m) + cond (is_requires (stated_limit rows table m)) 1 0
      next = ap (count_by is_requires) (limits_more rows table m) ∙ requires_more (limits_before rows table m) (stated_limit rows table m)

      by_next : (b : Bool) → is_requires (stated_limit rows table m) ≡ b → count_by is_requires (limits_before rows table m) ≤ MOST_REQUIRES
          → requires_fault rows table m ≡ None → count_by is_requires (limits_before rows table (m + 1)) ≤ MOST_REQUIRES
      by_next true is before pairs =
          let full = no_fault_if _ _ pairs in
          let below : nat_lt (count_by is_requires (limits_before rows table m)) MOST_REQUIRES ≡ true = held _ _ full is in
          rw (next, is) (grind (arith, nat_tests))
      by_next false is before pairs = rw (next, is) (omega arith)

  pub limits_once : (i j : ℕ) → i < j → j < n → Repeats (stated_limit rows table i) (stated_limit rows table j) → ⊥
  limits_once i j before inside same =
      let once = (clean_limit rows table j (clean j inside)).1.once in
      let fresh : list_any (repeats (stated_limit rows table j)) (limits_before rows table j) ≡ false = no_fault_if _ _ once in
      let here : repeats (stated_limit rows table j) (get_or (limits_before rows table j) i (stated_limit rows table i)) ≡ true
      = ap (repeats (stated_limit rows table j)) (get_or-map-range_with_len (stated_limit rows table) 0 j i i (stated_limit rows table i) before (omega arith))
      ∙ repeats_back (stated_limit rows table i) (stated_limit rows table j) same in
      let there : i < length (limits_before rows table j) = omega (arith, before, length-map-range_with_len (stated_limit rows table) 0 j) in
      true≢false (sym (list_any_at (repeats (stated_limit rows table j)) (limits_before rows table j) i (stated_limit rows table i) there here) ∙ fresh)

  -- No fault in a row, so the limits may stand in the catalogue's problem.
  pub limits_fit : HasNumbers rows → (model : ModelName) (none unit : ℕ) (segments : List NamedSegment) → HasLimits (problem_data_of rows model none unit segments (limits_before rows table n))
  limits_fit numbered model none unit segments =
      let limits = limits_before rows table n in
      let stated : (k : ℕ) (kind : LimitKind) → kind_of_row table k ≡ Some kind → stated_limit rows table k ≡ limit_under rows table k kind
      = λ k kind is. ap (λ o. limit_under rows table k (unwrap_or o Total)) is in
      record {
        few = rw (length-map-range_with_len (stated_limit rows table) 0 n) (few_rows n (omega arith));
        few_requires = few_pairs n (omega arith);
        in_range = each_limit IsInRange (λ k inside.
            let row = clean_limit rows table k (clean k inside) in
            subst IsInRange (sym (stated k row.0 row.1.kind_is)) (capped row.0 (text_of table k number_column) _ _ row.1.number));
        named = each_limit (NamesExisting (problem_data_of rows model none unit segments limits)) (λ k inside.
            let row = clean_limit rows table k (clean k inside) in
            subst (NamesExisting (problem_data_of rows model none unit segments limits)) (sym (stated k row.0 row.1.kind_is))
            (names_there rows numbered model none unit segments limits row.0 (text_of table k first_column) (text_of table k second_column) _ row.1.first row.1.second));
        once = λ i j d before inside.
            let last : j < n = omega (arith, inside, length-map-range_with_len (stated_limit rows table) 0 n) in
            let at : (k : ℕ) → k < n → get_or limits k d ≡ stated_limit rows table k
            = λ k below. get_or-map-range_with_len (stated_limit rows table) 0 n k k d below (omega arith) in
            subst (λ x. Repeats x (get_or limits j d) → ⊥) (sym (at i (omega arith)))
            (subst (λ y. Repeats (stated_limit rows table i) y → ⊥) (sym (at j last)) (limits_once i j before last));
      }

-- What is read without a fault fits.
pub fit_if_read : {T E : Type 0} (items_of : T → List Limit) (read : Result T E) (rows catalogue : List RowData) (table : TableData)
    → rows ≡ catalogue → HasNumbers catalogue → IfOk read (λ x. items_of x ≡ limits_before rows table (length table.records))
    → OnOk read (first_row_fault Limits (limit_fault rows table) 0 (length table.records) ≡ None)
    → IfOk read (λ x. (model : ModelName) (none unit : ℕ) (segments : List NamedSegment) → HasLimits (problem_data_of catalogue model none unit segments (items_of x)))
fit_if_read items_of (Ok x) rows catalogue table same numbered are clean = λ model none unit segments.
    subst (λ xs. HasLimits (problem_data_of catalogue model none unit segments xs)) (sym are)
    (subst (λ cs. HasLimits (problem_data_of cs model none unit segments (limits_before rows table (length table.records)))) same
    (limits_fit rows table (length table.records)
    (λ k inside. row_is_clean Limits (limit_fault rows table) (length table.records) k clean inside) (subst HasNumbers (sym same) numbered) model none unit segments))
fit_if_read items_of (Err e) rows catalogue table same numbered are clean = tt

-- What holds of a products file without a fault.
use Rattle.std.proofs.Common.{true≢false, ◌≡◌, ◌≢◌, ◌∙◌, sym, ap, subst, refl, arith, ℕ, zero, suc, ◌+◌, ◌<◌, ◌≤◌, ◌==◌, ◌&&◌, ◌++◌, inl, inr, List, [], ◌∷◌, length, take, map, get_or, if◌then◌else◌, Bool, true, false, nat_le, nat_lt, Option, Some, None, unwrap_or, IsTrue, All}
use Rattle.std.specs.List.{range_with_len}
use Rattle.std.specs.Str.{bytes_eq}
use Rattle.std.proofs.lemmas.Bool.Decides.{nat_tests}
use Rattle.std.proofs.lemmas.List.{get_or-take, length-map, length-take, take_more}
use Rattle.std.proofs.lemmas.List.Folds.{list_any_at}
use Rattle.std.proofs.lemmas.List.FromFn.{fill_by_all, length-map-range_with_len, get_or-map-range_with_len}
use Rattle.std.proofs.lemmas.Simd.{map-map}
use Rattle.std.proofs.lemmas.Slice.Eq.{bytes_eq-Decides}
use Rattle.offer_model.specs.declared.products.ModelName.{ModelName}
use Rattle.offer_model.specs.declared.products.ModelName.TheVariants.{Attract}
use Rattle.offer_model.specs.declared.ranges.TheConstants.{MOST_PRODUCTS, MOST_AMOUNT, MOST_COUNT}
use Rattle.offer_model.specs.Numerals.{number_of}
use Rattle.table_reader.specs.Tables.{TableData, place_of, is_among}
use Rattle.catalogue_rows.specs.Columns.{name_column, margin_column, attraction_column, shadow_column, category_column, space_column, price_column, ladder_column, grade_column, arrival_column}
use Rattle.catalogue_rows.specs.Names.{is_name, distinct_names, number_in}
use Rattle.catalogue_rows.specs.Rows.{RowData, IsGroup, IsRow, NamesDiffer, IsCatalogue, KeepsShadows}
use Rattle.catalogue_rows.specs.Cells.{text_at, texts_of, text_of, written_number, range_fault, number_fault, name_fault, fault_unless_empty}
use Rattle.catalogue_rows.specs.ProductTables.{is_needed, count_fault, repeat_fault, amount_fault, group_fault, shadow_fault, product_fault, product_row, product_rows}
use Rattle.catalogue_rows.proofs.FaultLemmas.{all_none, no_fault_if, no_fault_else}
use Rattle.catalogue_rows.proofs.NameLemmas.{number_so_far, length_distinct}

full : (b : ℕ) (text : List ℕ) → (length (b ∷ text) == 0) ≡ false
full b text = grind (arith, nat_tests)

-- A number without a fault is in range, and so is the 0 of an empty text.
pub in_range : (most : ℕ) (o : Option ℕ) → range_fault 0 most o ≡ None → unwrap_or o 0 ≤ most
in_range most None clean = cc
in_range most (Some n) clean =
    let inside : (nat_le 0 n && nat_le n most) ≡ true = no_fault_else _ _ clean in
    grind (arith, nat_tests)

amount_in_range : (needed : Bool) (most : ℕ) (text : List ℕ) → fault_unless_empty needed (number_fault 0 most) text ≡ None → written_number text ≤ most
amount_in_range needed most [] clean = omega arith
amount_in_range true most (b ∷ text) clean = in_range most (number_of (b ∷ text)) clean
amount_in_range false most (b ∷ text) clean = in_range most (number_of (b ∷ text)) (rw (full b text) at clean)

-- A name without a fault is one.
name_is_good : (text : List ℕ) → name_fault text ≡ None → IsTrue (is_name text)
name_is_good text clean = no_fault_else (is_name text) _ clean

group_is_good : (text : List ℕ) → fault_unless_empty false name_fault text ≡ None → IsGroup text
group_is_good [] clean = inl refl
group_is_good (b ∷ text) clean = inr (name_is_good (b ∷ text) (rw (full b text) at clean))

-- A row without a fault has none in any of its cells.
pub record CleanRow (model : ModelName) (table : TableData) (k : ℕ) : Type 0 where
  pub count : count_fault k ≡ None
  pub name : name_fault (text_of table k name_column) ≡ None
  pub once : repeat_fault table k ≡ None
  pub margin : amount_fault model table k margin_column MOST_AMOUNT ≡ None
  pub attraction : amount_fault model table k attraction_column MOST_AMOUNT ≡ None
  pub shadow : amount_fault model table k shadow_column MOST_AMOUNT ≡ None
  pub category : group_fault table k category_column ≡ None
  pub space : amount_fault model table k space_column MOST_COUNT ≡ None
  pub price : amount_fault model table k price_column MOST_AMOUNT ≡ None
  pub ladder : group_fault table k ladder_column ≡ None
  pub grade : amount_fault model table k grade_column MOST_COUNT ≡ None
  pub arrival : amount_fault model table k arrival_column MOST_AMOUNT ≡ None
  pub below : shadow_fault model table k ≡ None

-- So says the first fault of a row.
pub clean_row : (model : ModelName) (table : TableData) (k : ℕ) → product_fault model table k ≡ None → CleanRow model table k
clean_row model table k clean =
    let each = all_none (count_fault k ∷ name_fault (text_of table k name_column) ∷ repeat_fault table k
    ∷ amount_fault model table k margin_column MOST_AMOUNT ∷ amount_fault model table k attraction_column MOST_AMOUNT
    ∷ amount_fault model table k shadow_column MOST_AMOUNT ∷ group_fault table k category_column
    ∷ amount_fault model table k space_column MOST_COUNT ∷ amount_fault model table k price_column MOST_AMOUNT
    ∷ group_fault table k ladder_column ∷ amount_fault model table k grade_column MOST_COUNT
    ∷ amount_fault model table k arrival_column MOST_AMOUNT ∷ shadow_fault model table k ∷ []) clean in
    record {
      count = each.0;
      name = each.1.0;
      once = each.1.1.0;
      margin = each.1.1.1.0;
      attraction = each.1.1.1.1.0;
      shadow = each.1.1.1.1.1.0;
      category = each.1.1.1.1.1.1.0;
      space = each.1.1.1.1.1.1.1.0;
      price = each.1.1.1.1.1.1.1.1.0;
      ladder = each.1.1.1.1.1.1.1.1.1.0;
      grade = each.1.1.1.1.1.1.1.1.1.1.0;
      arrival = each.1.1.1.1.1.1.1.1.1.1.1.0;
      below = each.1.1.1.1.1.1.1.1.1.1.1.1.0;
    }

module _ (model : ModelName) (table : TableData) (k : ℕ) (clean : product_fault model table k ≡ None) where
  -- There is a place for it.
  pub below_most : k < MOST_PRODUCTS
  below_most =
      let below : nat_lt k MOST_PRODUCTS ≡ true = no_fault_else _ _ (clean_row model table k clean).count in
      grind (arith, nat_tests)

  -- No earlier row has its name.
  pub is_new_name : is_among (text_of table k name_column) (take k (texts_of table name_column)) ≡ false
  is_new_name = no_fault_if _ _ (clean_row model table k clean).once

  -- Its names are names, and its numbers in their ranges.
  row_is_good : IsRow (product_row table k)
  row_is_good =
      let row = clean_row model table k clean in
      let amount : (c most : ℕ) → amount_fault model table k c most ≡ None → written_number (text_of table k c) ≤ most
      = λ c most none. amount_in_range (is_needed model c) most (text_of table k c) none in
      record {
        name = name_is_good (text_of table k name_column) row.name;
        product = record {
          margin = amount margin_column MOST_AMOUNT row.margin;
          space = amount space_column MOST_COUNT row.space;
          price = amount price_column MOST_AMOUNT row.price;
          grade = amount grade_column MOST_COUNT row.grade;
        };
        attraction = amount attraction_column MOST_AMOUNT row.attraction;
        shadow = amount shadow_column MOST_AMOUNT row.shadow;
        arrival = amount arrival_column MOST_AMOUNT row.arrival;
        category = group_is_good (text_of table k category_column) row.category;
        ladder = group_is_good (text_of table k ladder_column) row.ladder;
      }

-- Under generalised attraction its shadow isn't above its attraction.
shadow_below : (table : TableData) (k : ℕ) → product_fault Attract table k ≡ None → (product_row table k).shadow ≤ (product_row table k).attraction
shadow_below table k clean =
    let below : nat_lt (written_number (text_of table k attraction_column)) (written_number (text_of table k shadow_column)) ≡ false
    = no_fault_if _ _ (clean_row Attract table k clean).below in
    grind (arith, nat_tests)

module _ (table : TableData) where
  -- What holds of each data row's row holds of each row.
  each_row : (P : RowData → Type 0) → ((k : ℕ) → k < length table.records → P (product_row table k)) → All P (product_rows table)
  each_row P holds k d inside =
      let n = length table.records in
      let below : k < n = omega (arith, inside, length-map-range_with_len (product_row table) 0 n) in
      subst P (sym (get_or-map-range_with_len (product_row table) 0 n k k d below (omega arith))) (holds k below)

  -- A column of the rows is that of the table.
  column_of_rows : (f : RowData → List ℕ) (c : ℕ) → ((k : ℕ) → f (product_row table k) ≡ text_of table k c) → map f (product_rows table) ≡ texts_of table c
  column_of_rows f c is =
      let n = length table.records in
      map-map f (product_row table) (range_with_len 0 n)
      ∙ sym (fill_by_all (λ k. f (product_row table k)) (texts_of table c) n [] (length-map table.records (text_at (place_of table c))) (λ k inside. sym (is k)))

  few : (n : ℕ) → ((k : ℕ) → k < n → k < MOST_PRODUCTS) → n ≤ MOST_PRODUCTS
  few zero below = omega arith
  few (suc n) below = let last = below n (omega arith) in omega arith

  -- Names of which the second isn't among those before it differ.
  names_differ : (i j : ℕ) → i < j → is_among (text_of table j name_column) (take j (texts_of table name_column)) ≡ false → j < length table.records
      → text_of table i name_column ≢ text_of table j name_column
  names_differ i j before fresh inside same =
      let texts = texts_of table name_column in
      let long : length texts ≡ length table.records = length-map table.records (text_at (place_of table name_column)) in
      let there : i < length (take j texts) = omega (arith, length-take j texts, long) in
      let here : bytes_eq (text_of table j name_column) (get_or (take j texts) i []) ≡ true
      = ap (bytes_eq (text_of table j name_column)) (get_or-take j texts i [] before) ∙ (bytes_eq-Decides (text_of table j name_column) (text_of table i name_column)).1 (sym same) in
      true≢false (sym (list_any_at (bytes_eq (text_of table j name_column)) (take j texts) i [] there here) ∙ fresh)

  -- No fault in a row, so the rows are a catalogue.
  pub is_catalogue : (model : ModelName) → ((k : ℕ) → k < length table.records → product_fault model table k ≡ None) → IsCatalogue (product_rows table)
  is_catalogue model clean = record {
    few = rw (length-map-range_with_len (product_row table) 0 (length table.records)) (few (length table.records) (λ k inside. below_most model table k (clean k inside)));
    each = each_row IsRow (λ k inside. row_is_good model table k (clean k inside));
    once = λ i j d before inside.
        let n = length table.records in
        let last : j < n = omega (arith, inside, length-map-range_with_len (product_row table) 0 n) in
        let at : (k : ℕ) → k < n → get_or (product_rows table) k d ≡ product_row table k
        = λ k below. get_or-map-range_with_len (product_row table) 0 n k k d below (omega arith) in
        subst (λ row. NamesDiffer row (get_or (product_rows table) j d)) (sym (at i (omega arith)))
        (subst (NamesDiffer (product_row table i)) (sym (at j last)) (names_differ i j before (is_new_name model table j (clean j last)) last));
    numbered = each_row
        (λ row. (row.product.category ≡ number_in (map (λ (other : RowData). other.category) (product_rows table)) row.category)
        × (row.product.ladder ≡ number_in (map (λ (other : RowData). other.ladder) (product_rows table)) row.ladder))
        (λ k inside. (
          ap (λ texts. number_in texts (text_of table k category_column)) (sym (column_of_rows (λ row. row.category) category_column (λ k. refl))),
          ap (λ texts. number_in texts (text_of table k ladder_column)) (sym (column_of_rows (λ row. row.ladder) ladder_column (λ k. refl))),
        ));
  }

  pub keeps_shadows : (model : ModelName) → ((k : ℕ) → k < length table.records → product_fault model table k ≡ None)
      → model ≡ Attract → KeepsShadows (product_rows table)
  keeps_shadows model clean e =
      each_row (λ row. row.shadow ≤ row.attraction) (λ k inside. shadow_below table k (ap (λ m. product_fault m table k) (sym e) ∙ clean k inside))

-- One more row.
module _ (model : ModelName) (table : TableData) (k : ℕ) (inside : k < length table.records) where
  column_more : (c : ℕ) (text : List ℕ) → text_of table k c ≡ text → take (k + 1) (texts_of table c) ≡ take k (texts_of table c) ++ text ∷ []
  column_more c text is =
      let here : k < length (texts_of table c) = omega (arith, inside, length-map table.records (text_at (place_of table c))) in
      take_more (texts_of table c) k [] here ∙ ap (λ t. take k (texts_of table c) ++ t ∷ []) is

  pub names_more : (names after : List (List ℕ)) (name : List ℕ) → product_fault model table k ≡ None → names ≡ take k (texts_of table name_column)
      → text_of table k name_column ≡ name → after ≡ (if is_among name names then names else names ++ name ∷ []) → after ≡ take (k + 1) (texts_of table name_column)
  names_more names after name clean before is grown =
      let fresh : is_among name names ≡ false
      = (λ i. is_among (sym is i) (before i)) ∙ is_new_name model table k clean in
      grown ∙ rw fresh (ap (λ known. known ++ name ∷ []) before ∙ sym (column_more name_column name is))

  pub group_more : (c : ℕ) (before after : List (List ℕ)) (text : List ℕ) → before ≡ distinct_names (take k (texts_of table c)) → text_of table k c ≡ text
      → ((texts : List (List ℕ)) → before ≡ distinct_names texts → after ≡ distinct_names (texts ++ text ∷ []))
      → after ≡ distinct_names (take (k + 1) (texts_of table c))
  group_more c before after text known is grown = grown (take k (texts_of table c)) known ∙ ap distinct_names (sym (column_more c text is))

  pub group_number : (c : ℕ) (before : List (List ℕ)) (text : List ℕ) (n : ℕ) → before ≡ distinct_names (take k (texts_of table c)) → text_of table k c ≡ text
      → ((texts : List (List ℕ)) → before ≡ distinct_names texts → n ≡ number_in (texts ++ text ∷ []) text)
      → n ≡ number_in (texts_of table c) text
  group_number c before text n known is number =
      let here : k < length (texts_of table c) = omega (arith, inside, length-map table.records (text_at (place_of table c))) in
      number (take k (texts_of table c)) known ∙ number_so_far (texts_of table c) k text here is

  -- The names so far are fewer than the most that there may be.
  pub group_few : (c : ℕ) (before : List (List ℕ)) → k < MOST_PRODUCTS → before ≡ distinct_names (take k (texts_of table c)) → length before < MOST_PRODUCTS
  group_few c before below known =
      omega (arith, ap length known, length_distinct (take k (texts_of table c)), length-take k (texts_of table c))

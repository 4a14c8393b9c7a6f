-- A printed catalogue is read again row by row.
use Rattle.std.proofs.Common.{◌≡◌, ◌∙◌, sym, ap, subst, refl, arith, ℕ, zero, suc, ◌+◌, ◌<◌, ◌≤◌, ◌^◌, ◌==◌, inl, inr, List, [], ◌∷◌, length, map, take, get_or, Bool, true, false, not, ◌&&◌, Option, Some, None, option_map, Ok, if◌then◌else◌}
use Rattle.std.specs.Prelude.{decimal, nat_lt, nat_le, slice_index_or, sum_by, AllPairs}
use Rattle.std.specs.Char.{is_ascii_digit}
use Rattle.std.specs.List.{list_all, position, position_or_len}
use Rattle.std.specs.Option.{option_or, unwrap_or}
use Rattle.std.specs.Str.{all_ascii_digits, bytes_eq}
use Rattle.std.proofs.lemmas.Bool.{le-leb, lt-ltb, le-ltb, ne_eqb, and_from, false_from_ne_true}
use Rattle.std.proofs.lemmas.Fmt.{decimal_is_IsNumeral, decimal_nonempty, digits_decimal, length-decimal-le}
use Rattle.std.proofs.lemmas.List.{get_or-map, get_or-take, length-map, length-take-le}
use Rattle.std.proofs.lemmas.List.Elements.{All-get_or}
use Rattle.std.proofs.lemmas.List.Folds.{list_any_none}
use Rattle.std.proofs.lemmas.List.FromFn.{fill_by_all}
use Rattle.std.proofs.lemmas.Slice.Eq.{bytes_eq-Decides}
use Rattle.std.proofs.lemmas.Str.Parse.{numerals_by_value, tells_all_ascii_digits}
use Rattle.offer_model.specs.declared.products.ModelName.{ModelName}
use Rattle.offer_model.specs.declared.products.ModelName.TheVariants.{Logit, Attract, Mixed, Chain}
use Rattle.offer_model.specs.declared.ranges.TheConstants.{MOST_PRODUCTS, MOST_AMOUNT, MOST_COUNT}
use Rattle.offer_model.specs.declared.numerals.TheConstants.{MOST_DIGITS}
use Rattle.offer_model.specs.Numerals.{number_of}
use Rattle.table_reader.specs.Tables.{TableData, is_among, place_of}
use Rattle.table_reader.specs.TableFaults.{answer_to, first_fault, first_other_length, table_outcome}
use Rattle.table_reader.specs.declared.faults.TableFault.TheVariants.{FieldCount}
use Rattle.catalogue_rows.specs.Columns.{name_column, margin_column, attraction_column, shadow_column, category_column, space_column, price_column, ladder_column, grade_column, arrival_column}
use Rattle.catalogue_rows.specs.declared.faults.Code.{Code}
use Rattle.catalogue_rows.specs.declared.faults.Code.TheVariants.{BadName, OutOfRange, RepeatedName, ShadowAbove, TooManyProducts, NoArrivals}
use Rattle.catalogue_rows.specs.declared.faults.FileName.{FileName}
use Rattle.catalogue_rows.specs.declared.faults.FileName.TheVariants.{Products}
use Rattle.catalogue_rows.specs.declared.faults.InputFault.TheVariants.{Fault}
use Rattle.catalogue_rows.specs.Cells.{text_at, text_of, number_fault, range_fault, name_fault, fault_unless_empty, written_number}
use Rattle.catalogue_rows.specs.Faults.{first_row_fault, unless_fault}
use Rattle.catalogue_rows.specs.Names.{number_in}
use Rattle.catalogue_rows.specs.Rows.{RowData, no_row, row_at, IsGroup, IsRow, NamesDiffer, IsCatalogue, KeepsShadows}
use Rattle.catalogue_rows.specs.ProductTables.{product_columns, needed_columns, repeat_fault, shadow_fault, product_fault, product_row, product_rows, arrival_fault, products_fault, products_in, products_outcome}
use Rattle.catalogue_rows.specs.PrintedProducts.{product_fields, products_text, ReadsBack}
use Rattle.catalogue_rows.proofs.PrintedTextLemmas.{printed_records}

-- The table of a printed catalogue: each column at its own place, and the rows' fields.
abbrev printed_table : List RowData → TableData
printed_table rows = record {
  places = Some name_column ∷ Some margin_column ∷ Some attraction_column ∷ Some shadow_column ∷ Some category_column ∷ Some space_column ∷ Some price_column ∷ Some ladder_column ∷ Some grade_column ∷ Some arrival_column ∷ [];
  records = map product_fields rows;
}

-- No record has another number of fields than the header.
same_lengths : (rows : List RowData) → first_other_length (length product_columns) (product_columns ∷ map product_fields rows) ≡ None
same_lengths rows = nowhere (λ (fields : List (List ℕ)). not (length fields == length product_columns)) (product_columns ∷ map product_fields rows) (omega (arith, passed rows))
  where
    passed : (rows : List RowData) → position_or_len (λ (fields : List (List ℕ)). not (length fields == length product_columns)) (map product_fields rows) ≡ length (map product_fields rows)
    passed [] = refl
    passed (row ∷ rows) = omega (arith, passed rows)

    nowhere : {X : Type 0} (p : X → Bool) (xs : List X) → position_or_len p xs ≡ length xs → position p xs ≡ None
    nowhere p xs e = rw (le-ltb (position_or_len p xs) (length xs) (omega arith)) refl

-- The records are a table of the columns under each model.
pub printed_outcome : (model : ModelName) (rows : List RowData)
    → table_outcome product_columns (needed_columns model) (product_columns ∷ map product_fields rows) ≡ Ok (printed_table rows)
printed_outcome model rows = ap (λ fault. answer_to fault (printed_table rows)) (no_fault model)
  where
    lengths : option_map (λ k. FieldCount (k + 1)) (first_other_length (length product_columns) (product_columns ∷ map product_fields rows)) ≡ None
    lengths = ap (option_map (λ k. FieldCount (k + 1))) (same_lengths rows)

    no_fault : (model : ModelName) → first_fault product_columns (needed_columns model) (product_columns ∷ map product_fields rows) ≡ None
    no_fault Logit = lengths
    no_fault Attract = lengths
    no_fault Mixed = lengths
    no_fault Chain = lengths

-- A number in decimal is read again.
number_again : (n : ℕ) → n ≤ MOST_AMOUNT → number_of (decimal n) ≡ Some n
number_again n small =
    let fits : n < 2 ^ 64 = omega arith in
    let some = le-leb 1 (length (decimal n)) (decimal_nonempty n fits) in
    let short = le-leb (length (decimal n)) MOST_DIGITS (length-decimal-le MOST_DIGITS n (omega arith) (omega arith) fits) in
    let digits : list_all is_ascii_digit (decimal n) ≡ true = sym (every (decimal n)) ∙ digits_decimal (numerals_by_value _ tells_all_ascii_digits) n fits in
    rw (some, short, digits) (ap Some (decimal_is_IsNumeral n fits).1)
  where
    every : (text : List ℕ) → all_ascii_digits text ≡ list_all is_ascii_digit text
    every [] = refl
    every (c ∷ text) = ap (λ rest. is_ascii_digit c && rest) (every text)

written_again : (n : ℕ) (text : List ℕ) → n ≤ MOST_AMOUNT → text ≡ decimal n → written_number text ≡ n
written_again n text small e = ap written_number e ∙ ap (λ number. unwrap_or number 0) (number_again n small)

-- Nothing is wrong where neither of two things is.
neither : {A : Type 0} (a b : Option A) → a ≡ None → b ≡ None → option_or a b ≡ None
neither None b first second = second
neither (Some x) b first second = cc

either_way : (test : Bool) (fault : Option Code) → fault ≡ None → (if test then None else fault) ≡ None
either_way true fault none = refl
either_way false fault none = none

-- Nothing is wrong with a printed number in its range.
amount_right : (needed : Bool) (most n : ℕ) (text : List ℕ) → most ≤ MOST_AMOUNT → n ≤ most → text ≡ decimal n
    → fault_unless_empty needed (number_fault 0 most) text ≡ None
amount_right needed most n text small within e = either_way (not needed && (length text == 0)) (number_fault 0 most text)
    (ap (number_fault 0 most) e ∙ ap (range_fault 0 most) (number_again n (omega arith))
    ∙ ap (λ inside. if inside then None else Some OutOfRange) (and_from (nat_le 0 n) (nat_le n most) (le-leb 0 n (omega arith)) (le-leb n most within)))

-- Nor with the name of a category or a ladder, or none.
group_right : (text : List ℕ) → IsGroup text → fault_unless_empty false name_fault text ≡ None
group_right text (inl none) = rw none refl
group_right text (inr name) = either_way (length text == 0) (name_fault text) (ap (λ right. if right then None else Some BadName) name)

-- No earlier row has a row's name.
pub name_new : (rows : List RowData) (k : ℕ) → AllPairs NamesDiffer rows → k < length rows
    → is_among (row_at rows k).name (take k (map (λ row. row.name) rows)) ≡ false
name_new rows k differ inside = list_any_none (bytes_eq (row_at rows k).name) (take k names) (λ j d within.
    let few = length-take-le k names (omega (arith, length-map rows (λ row. row.name))) in
    let less : j < k = omega arith in
    let earlier : get_or (take k names) j d ≡ (row_at rows j).name = get_or-take k names j d less ∙ get_or-map (λ row. row.name) rows j no_row d (omega arith) in
    false_from_ne_true _ (λ same. differ j k no_row less inside (sym earlier ∙ sym ((bytes_eq-Decides (row_at rows k).name (get_or (take k names) j d)).0 same))))
  where
    names : List (List ℕ)
    names = map (λ row. row.name) rows

-- The texts of a column are the rows' texts there.
column : (g : List (List ℕ) → List ℕ) (f : RowData → List ℕ) → ((row : RowData) → g (product_fields row) ≡ f row) → (rows : List RowData)
    → map g (map product_fields rows) ≡ map f rows
column g f same [] = refl
column g f same (row ∷ rows) = λ i. same row i ∷ column g f same rows i

column_text : (rows : List RowData) (k c : ℕ) (f : RowData → List ℕ) → k < length rows
    → ((row : RowData) → text_at (place_of (printed_table rows) c) (product_fields row) ≡ f row)
    → text_of (printed_table rows) k c ≡ f (row_at rows k)
column_text rows k c f inside same =
    ap (λ texts. slice_index_or texts k []) (column (text_at (place_of (printed_table rows) c)) f same rows) ∙ get_or-map f rows k no_row [] inside

-- The texts of a printed row.
module _ (rows : List RowData) (k : ℕ) (inside : k < length rows) where
  name_text : text_of (printed_table rows) k name_column ≡ (row_at rows k).name
  name_text = column_text rows k name_column (λ row. row.name) inside (λ row. refl)

  margin_text : text_of (printed_table rows) k margin_column ≡ decimal (row_at rows k).product.margin
  margin_text = column_text rows k margin_column (λ row. decimal row.product.margin) inside (λ row. refl)

  attraction_text : text_of (printed_table rows) k attraction_column ≡ decimal (row_at rows k).attraction
  attraction_text = column_text rows k attraction_column (λ row. decimal row.attraction) inside (λ row. refl)

  shadow_text : text_of (printed_table rows) k shadow_column ≡ decimal (row_at rows k).shadow
  shadow_text = column_text rows k shadow_column (λ row. decimal row.shadow) inside (λ row. refl)

  category_text : text_of (printed_table rows) k category_column ≡ (row_at rows k).category
  category_text = column_text rows k category_column (λ row. row.category) inside (λ row. refl)

  space_text : text_of (printed_table rows) k space_column ≡ decimal (row_at rows k).product.space
  space_text = column_text rows k space_column (λ row. decimal row.product.space) inside (λ row. refl)

  price_text : text_of (printed_table rows) k price_column ≡ decimal (row_at rows k).product.price
  price_text = column_text rows k price_column (λ row. decimal row.product.price) inside (λ row. refl)

  ladder_text : text_of (printed_table rows) k ladder_column ≡ (row_at rows k).ladder
  ladder_text = column_text rows k ladder_column (λ row. row.ladder) inside (λ row. refl)

  grade_text : text_of (printed_table rows) k grade_column ≡ decimal (row_at rows k).product.grade
  grade_text = column_text rows k grade_column (λ row. decimal row.product.grade) inside (λ row. refl)

  arrival_text : text_of (printed_table rows) k arrival_column ≡ decimal (row_at rows k).arrival
  arrival_text = column_text rows k arrival_column (λ row. decimal row.arrival) inside (λ row. refl)

-- What is read of a printed row.
module _ (rows : List RowData) (valid : IsCatalogue rows) (k : ℕ) (inside : k < length rows) where
  is_row : IsRow (row_at rows k)
  is_row = All-get_or IsRow rows k no_row inside valid.each

  row_again : product_row (printed_table rows) k ≡ row_at rows k
  row_again =
      let row = row_at rows k in
      let numbers = valid.numbered k no_row inside in
      let categories = column (text_at (Some category_column)) (λ other. other.category) (λ other. refl) rows in
      let ladders = column (text_at (Some ladder_column)) (λ other. other.ladder) (λ other. refl) rows in
      let margin = written_again row.product.margin _ is_row.product.margin (margin_text rows k inside) in
      let category = (λ i. number_in (categories i) (category_text rows k inside i)) ∙ sym numbers.0 in
      let space = written_again row.product.space _ (omega (arith, is_row.product.space)) (space_text rows k inside) in
      let price = written_again row.product.price _ is_row.product.price (price_text rows k inside) in
      let ladder = (λ i. number_in (ladders i) (ladder_text rows k inside i)) ∙ sym numbers.1 in
      let grade = written_again row.product.grade _ (omega (arith, is_row.product.grade)) (grade_text rows k inside) in
      let attraction = written_again row.attraction _ is_row.attraction (attraction_text rows k inside) in
      let shadow = written_again row.shadow _ is_row.shadow (shadow_text rows k inside) in
      let arrival = written_again row.arrival _ is_row.arrival (arrival_text rows k inside) in
      λ i. record {
        name = name_text rows k inside i;
        product = record { margin = margin i; category = category i; space = space i; price = price i; ladder = ladder i; grade = grade i };
        attraction = attraction i;
        shadow = shadow i;
        arrival = arrival i;
        category = category_text rows k inside i;
        ladder = ladder_text rows k inside i;
      }

  repeat_right : repeat_fault (printed_table rows) k ≡ None
  repeat_right =
      let names = column (text_at (Some name_column)) (λ row. row.name) (λ row. refl) rows in
      ap (λ found. if found then Some RepeatedName else None)
      ((λ i. is_among (name_text rows k inside i) (take k (names i))) ∙ name_new rows k valid.once inside)

  shadow_right : (model : ModelName) → (model ≡ Attract → KeepsShadows rows) → shadow_fault model (printed_table rows) k ≡ None
  shadow_right Attract keeps =
      let row = row_at rows k in
      let attraction = written_again row.attraction _ is_row.attraction (attraction_text rows k inside) in
      let shadow = written_again row.shadow _ is_row.shadow (shadow_text rows k inside) in
      let below : row.shadow ≤ row.attraction = All-get_or (λ other. other.shadow ≤ other.attraction) rows k no_row inside (keeps refl) in
      ap (λ above. if above then Some ShadowAbove else None) ((λ i. nat_lt (attraction i) (shadow i)) ∙ le-ltb row.attraction row.shadow below)
  shadow_right Logit keeps = refl
  shadow_right Mixed keeps = refl
  shadow_right Chain keeps = refl

  row_right : (model : ModelName) → (model ≡ Attract → KeepsShadows rows) → product_fault model (printed_table rows) k ≡ None
  row_right model keeps =
      let row = row_at rows k in
      neither _ _ (ap (λ there. if there then None else Some TooManyProducts) (lt-ltb k MOST_PRODUCTS (omega (arith, valid.few))))
      (neither _ _ (ap name_fault (name_text rows k inside) ∙ ap (λ right. if right then None else Some BadName) is_row.name)
      (neither _ _ repeat_right
      (neither _ _ (amount_right _ MOST_AMOUNT row.product.margin _ (omega arith) is_row.product.margin (margin_text rows k inside))
      (neither _ _ (amount_right _ MOST_AMOUNT row.attraction _ (omega arith) is_row.attraction (attraction_text rows k inside))
      (neither _ _ (amount_right _ MOST_AMOUNT row.shadow _ (omega arith) is_row.shadow (shadow_text rows k inside))
      (neither _ _ (ap (fault_unless_empty false name_fault) (category_text rows k inside) ∙ group_right row.category is_row.category)
      (neither _ _ (amount_right _ MOST_COUNT row.product.space _ (omega arith) is_row.product.space (space_text rows k inside))
      (neither _ _ (amount_right _ MOST_AMOUNT row.product.price _ (omega arith) is_row.product.price (price_text rows k inside))
      (neither _ _ (ap (fault_unless_empty false name_fault) (ladder_text rows k inside) ∙ group_right row.ladder is_row.ladder)
      (neither _ _ (amount_right _ MOST_COUNT row.product.grade _ (omega arith) is_row.product.grade (grade_text rows k inside))
      (neither _ _ (amount_right _ MOST_AMOUNT row.arrival _ (omega arith) is_row.arrival (arrival_text rows k inside))
      (neither _ _ (shadow_right model keeps) refl))))))))))))

-- No row has a fault.
rows_right : (file : FileName) (fault_in : ℕ → Option Code) (k n : ℕ) → ((j : ℕ) → k ≤ j → j < k + n → fault_in j ≡ None)
    → first_row_fault file fault_in k n ≡ None
rows_right file fault_in k zero right = refl
rows_right file fault_in k (suc n) right = neither _ _ (ap (option_map (Fault file (k + 2))) (right k (omega arith) (omega arith)))
    (rows_right file fault_in (k + 1) n (λ j low high. right j (omega arith) (omega arith)))

arrival_right : (model : ModelName) (rows : List RowData) → (model ≡ Chain → 0 < sum_by (λ row. row.arrival) rows) → arrival_fault model rows ≡ None
arrival_right Chain rows some =
    let many = some refl in
    ap (λ none. if none then Some NoArrivals else None) (ne_eqb (sum_by (λ row. row.arrival) rows) 0 (λ e. omega arith))
arrival_right Logit rows some = refl
arrival_right Attract rows some = refl
arrival_right Mixed rows some = refl

-- The printed rows are read again.
rows_again : (rows : List RowData) → IsCatalogue rows → product_rows (printed_table rows) ≡ rows
rows_again rows valid = sym (fill_by_all (product_row (printed_table rows)) rows (length (map product_fields rows)) no_row
    (sym (length-map rows product_fields)) (λ k inside. sym (row_again rows valid k (rw length-map at inside))))

read_again : (model : ModelName) (rows : List RowData) → IsCatalogue rows → (model ≡ Attract → KeepsShadows rows)
    → (model ≡ Chain → 0 < sum_by (λ row. row.arrival) rows) → products_outcome model (products_text rows) ≡ Ok rows
read_again model rows valid keeps some =
    let table = printed_table rows in
    let again = rows_again rows valid in
    let right = rows_right Products (product_fault model table) 0 (length (map product_fields rows))
    (λ j low high. row_right rows valid j (omega (arith, length-map rows product_fields)) model keeps) in
    let arrivals = ap (arrival_fault model) again ∙ arrival_right model rows some in
    let none : products_fault model table ≡ None = neither _ _ right (ap (option_map (Fault Products 1)) arrivals) in
    ap (λ records. products_in model (table_outcome product_columns (needed_columns model) records)) (printed_records rows)
    ∙ ap (products_in model) (printed_outcome model rows)
    ∙ ap (λ fault. unless_fault fault (product_rows table)) none
    ∙ ap Ok again

-- A printed catalogue reads back.
pub reads_back : (rows : List RowData) (text : List ℕ) → IsCatalogue rows → text ≡ products_text rows → ReadsBack rows text
reads_back rows text valid e = subst (ReadsBack rows) (sym e) (record {
  logit = read_again Logit rows valid (λ is. cc) (λ is. cc);
  mixed = read_again Mixed rows valid (λ is. cc) (λ is. cc);
  attract = λ keeps. read_again Attract rows valid (λ is. keeps) (λ is. cc);
  chain = λ some. read_again Chain rows valid (λ is. cc) (λ is. some);
})

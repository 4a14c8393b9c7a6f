-- Plain rows are a catalogue: their names are names, each once.
use Rattle.std.proofs.Common.{◌≡◌, ◌≢◌, ◌∙◌, sym, ap, subst, refl, arith, ℕ, zero, suc, ◌+◌, ◌<◌, ◌≤◌, ◌^◌, inl, List, [], ◌∷◌, ◌++◌, length, map, get_or, drop, Bool, true, All, IsTrue, ◌&&◌, Some}
use Rattle.std.specs.Prelude.{decimal, slice_get, nat_le}
use Rattle.std.specs.List.{list_all, range_with_len}
use Rattle.std.specs.Str.{is_utf8, IsAscii}
use Rattle.std.specs.Str.Parse.{AllDigits}
use Rattle.std.proofs.lemmas.Bool.{le-leb}
use Rattle.std.proofs.lemmas.Bool.Decides.{nat_tests}
use Rattle.std.proofs.lemmas.Fmt.{decimal_injective, decimal_is_IsNumeral, IsAscii-decimal, length-decimal-le}
use Rattle.std.proofs.lemmas.List.FromFn.{length-map-range_with_len, get_or-map-range_with_len, map-range_with_len_more}
use Rattle.std.proofs.lemmas.Option.{get_or_from_slice_get}
use Rattle.std.proofs.lemmas.Str.{IsUtf8-from_ascii, is_utf8-from_IsUtf8}
use Rattle.std.proofs.lemmas.Str.Parse.{digit_from_value}
use Rattle.offer_model.specs.declared.ranges.TheConstants.{MOST_PRODUCTS, MOST_AMOUNT}
use Rattle.catalogue_rows.specs.Sizes.{most_name}
use Rattle.catalogue_rows.specs.Names.{is_name, is_name_byte, number_in}
use Rattle.catalogue_rows.specs.Rows.{RowData, IsRow, NamesDiffer, IsCatalogue}
use Rattle.catalogue_rows.specs.Plain.{plain_name, plain_row, plain_rows}
use Rattle.catalogue_rows.proofs.NameLemmas.{number_of_empty}

-- ---- Names.

digit_in_name : (c : ℕ) → 48 ≤ c → c ≤ 57 → is_name_byte c ≡ true
digit_in_name c low high = grind (arith, nat_tests)

digits_in_name : (ds : List ℕ) → AllDigits 10 ds → list_all is_name_byte ds ≡ true
digits_in_name [] d = refl
digits_in_name (c ∷ cs) d =
    let here = digit_from_value c d.0 in
    rw (digit_in_name c (omega arith) (omega arith)) (digits_in_name cs d.1)

four_true : (a b c d : Bool) → a ≡ true → b ≡ true → c ≡ true → d ≡ true → IsTrue (a && b && c && d)
four_true a b c d p q r s = rw (p, q, r, s) refl

letter_and_digits : (k : ℕ) → k < 2 ^ 64 → IsAscii (plain_name k)
letter_and_digits k small zero = omega arith
letter_and_digits k small (suc i) = IsAscii-decimal k small i

-- The name of a product is a name.
is_plain_name : (k : ℕ) → k < MOST_PRODUCTS → IsTrue (is_name (plain_name k))
is_plain_name k few =
    let small : k < 2 ^ 64 = omega arith in
    let short : length (decimal k) ≤ 20 = length-decimal-le 20 k (omega arith) (omega arith) small in
    four_true (nat_le 1 (length (plain_name k))) (nat_le (length (plain_name k)) most_name) (is_utf8 (plain_name k)) (list_all is_name_byte (plain_name k))
    (le-leb 1 (length (plain_name k)) (omega arith)) (le-leb (length (plain_name k)) most_name (omega arith))
    (is_utf8-from_IsUtf8 (plain_name k) (IsUtf8-from_ascii (plain_name k) (letter_and_digits k small)))
    (digits_in_name (decimal k) (decimal_is_IsNumeral k small).0.1)

-- Products of different numbers have different names.
names_differ : (i j : ℕ) → i < j → j < MOST_PRODUCTS → plain_name i ≢ plain_name j
names_differ i j less few same =
    let equal : i ≡ j = decimal_injective i j (omega arith) (omega arith) (ap (drop 1) same) in
    omega arith

-- ---- Rows.

-- There are as many rows as margins.
pub length-plain_rows : (margins : List ℕ) → length (plain_rows margins) ≡ length margins
length-plain_rows margins = length-map-range_with_len (λ k. plain_row k (get_or margins k 0)) 0 (length margins)

plain_row_good : (k margin : ℕ) → k < MOST_PRODUCTS → margin ≤ MOST_AMOUNT → IsRow (plain_row k margin)
plain_row_good k margin few small = record {
  name = is_plain_name k few;
  product = record { margin = small; space = omega arith; price = omega arith; grade = omega arith };
  attraction = omega arith;
  shadow = omega arith;
  arrival = omega arith;
  category = inl refl;
  ladder = inl refl;
}

module _ (margins : List ℕ) (few : length margins ≤ MOST_PRODUCTS) where
  abbrev row_of : ℕ → RowData
  row_of k = plain_row k (get_or margins k 0)

  -- What holds of each product's row holds of each row.
  each_row : (P : RowData → Type 0) → ((k : ℕ) → k < length margins → P (row_of k)) → All P (plain_rows margins)
  each_row P holds k d inside =
      let n = length margins in
      let below : k < n = omega (arith, inside, length-map-range_with_len row_of 0 n) in
      subst P (sym (get_or-map-range_with_len row_of 0 n k k d below (omega arith))) (holds k below)

  -- Plain rows are a catalogue.
  pub plain_is_catalogue : All (λ margin. margin ≤ MOST_AMOUNT) margins → IsCatalogue (plain_rows margins)
  plain_is_catalogue small = record {
    few = rw (length-map-range_with_len row_of 0 (length margins)) few;
    each = each_row IsRow (λ k inside. plain_row_good k (get_or margins k 0) (omega arith) (small k 0 inside));
    once = λ i j d less inside.
        let n = length margins in
        let last : j < n = omega (arith, inside, length-map-range_with_len row_of 0 n) in
        let at : (k : ℕ) → k < n → get_or (plain_rows margins) k d ≡ row_of k
        = λ k below. get_or-map-range_with_len row_of 0 n k k d below (omega arith) in
        subst (λ row. NamesDiffer row (get_or (plain_rows margins) j d)) (sym (at i (omega arith)))
        (subst (NamesDiffer (row_of i)) (sym (at j last)) (names_differ i j less (omega arith)));
    numbered = each_row
        (λ row. (row.product.category ≡ number_in (map (λ (other : RowData). other.category) (plain_rows margins)) row.category)
        × (row.product.ladder ≡ number_in (map (λ (other : RowData). other.ladder) (plain_rows margins)) row.ladder))
        (λ k inside. (
          sym (number_of_empty (map (λ (other : RowData). other.category) (plain_rows margins)) [] refl),
          sym (number_of_empty (map (λ (other : RowData). other.ladder) (plain_rows margins)) [] refl),
        ));
  }

-- One more product.
pub row_more : (margins : List ℕ) (rows after : List RowData) (k margin : ℕ) (row : RowData) → slice_get margins k ≡ Some margin
    → rows ≡ map (λ j. plain_row j (get_or margins j 0)) (range_with_len 0 k) → row ≡ plain_row k margin → after ≡ rows ++ row ∷ []
    → after ≡ map (λ j. plain_row j (get_or margins j 0)) (range_with_len 0 (k + 1))
row_more margins rows after k margin row got was here is =
    let row_at : ℕ → RowData = λ j. plain_row j (get_or margins j 0) in
    let item : row ≡ row_at k = here ∙ ap (plain_row k) (sym (get_or_from_slice_get margins k margin 0 got)) in
    is ∙ ap (λ (before : List RowData). before ++ row ∷ []) was ∙ ap (λ (last : RowData). map row_at (range_with_len 0 k) ++ last ∷ []) item
    ∙ sym (map-range_with_len_more row_at 0 k k (omega arith))

-- All products.
pub plain_made : (margins : List ℕ) (rows : List RowData) (k : ℕ) → rows ≡ map (λ j. plain_row j (get_or margins j 0)) (range_with_len 0 k) → k ≡ length margins
    → rows ≡ plain_rows margins
plain_made margins rows k was all = was ∙ ap (λ (n : ℕ). map (λ j. plain_row j (get_or margins j 0)) (range_with_len 0 n)) all

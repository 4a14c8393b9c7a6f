-- What names stand for in a catalogue.
use Rattle.std.proofs.Common.{true≢false, ◌≡◌, ◌∙◌, sym, ap, refl, arith, ℕ, ◌+◌, ◌<◌, ◌≤◌, ◌==◌, List, [], ◌∷◌, length, map, Bool, true, false, Option, Some, None, option_map, All}
use Rattle.std.specs.List.{position}
use Rattle.std.specs.Option.{option_map_or, is_some}
use Rattle.std.specs.Str.{bytes_eq}
use Rattle.std.proofs.lemmas.Bool.{false_from_ne_true}
use Rattle.std.proofs.lemmas.List.Quantifiers.{position-Some}
use Rattle.std.proofs.lemmas.Slice.Eq.{bytes_eq-Decides}
use Rattle.table_reader.specs.Tables.{is_among}
use Rattle.table_reader.proofs.PositionLemmas.{position_in_map, position_there}
use Rattle.catalogue_rows.specs.Names.{distinct_names, place_in, number_in}
use Rattle.catalogue_rows.specs.Rows.{RowData, no_row, row_at}
use Rattle.catalogue_rows.proofs.NameLemmas.{among_others, empty_is_no_name, none_if_gone}

-- A name is among the names exactly where it is among the texts.
among_distinct : (texts : List (List ℕ)) (text : List ℕ) → (length text == 0) ≡ false → is_among text (distinct_names texts) ≡ is_among text texts
among_distinct [] text full = refl
among_distinct (t ∷ ts) text full = by_length (length t == 0) refl (among_distinct ts text full)
  where
    by_first : (b : Bool) → (length t == 0) ≡ false → bytes_eq text t ≡ b → is_among text (distinct_names ts) ≡ is_among text ts
        → is_among text (distinct_names (t ∷ ts)) ≡ is_among text (t ∷ ts)
    by_first true some same rest = rw (some, same) refl
    by_first false some differs rest = rw (some, differs, among_others t text (distinct_names ts) differs) rest

    by_length : (b : Bool) → (length t == 0) ≡ b → is_among text (distinct_names ts) ≡ is_among text ts
        → is_among text (distinct_names (t ∷ ts)) ≡ is_among text (t ∷ ts)
    by_length true empty rest =
        let differs : bytes_eq text t ≡ false
        = false_from_ne_true _ (λ h. true≢false (sym empty ∙ ap (λ s. length s == 0) (sym ((bytes_eq-Decides text t).0 h)) ∙ full)) in
        rw (empty, differs) rest
    by_length false some rest = by_first (bytes_eq text t) some refl rest

number_if_there : (o : Option ℕ) → is_some o ≡ true → option_map (λ k. k + 1) o ≡ Some (option_map_or (λ k. k + 1) o 0)
number_if_there None there = cc
number_if_there (Some k) there = refl

least_number : (o : Option ℕ) (n : ℕ) → option_map (λ k. k + 1) o ≡ Some n → 1 ≤ n
least_number None n is = cc
least_number (Some k) n is = let e : k + 1 ≡ n = cc in omega arith

-- The empty text has no number.
pub no_number : (rows : List RowData) (name_of : RowData → List ℕ) (text : List ℕ) → (length text == 0) ≡ true
    → option_map (λ k. k + 1) (place_in (map name_of rows) text) ≡ None
no_number rows name_of text empty =
    let gone : place_in (map name_of rows) text ≡ None
    = none_if_gone _ (position_there (bytes_eq text) (distinct_names (map name_of rows)) ∙ empty_is_no_name (map name_of rows) text empty) in
    rw gone refl

-- The rows of a catalogue, each with a name and the number of that name.
module _ (rows : List RowData) (name_of : RowData → List ℕ) (number_of : RowData → ℕ)
    (numbered : All (λ row. number_of row ≡ number_in (map name_of rows) (name_of row)) rows) (text : List ℕ) where
  there_alike : (length text == 0) ≡ false → is_some (place_in (map name_of rows) text) ≡ is_some (position (λ row. bytes_eq text (name_of row)) rows)
  there_alike full =
      position_there (bytes_eq text) (distinct_names (map name_of rows)) ∙ among_distinct (map name_of rows) text full
      ∙ sym (position_there (bytes_eq text) (map name_of rows)) ∙ ap is_some (position_in_map name_of (bytes_eq text) rows)

  -- A name that no row has has no number.
  pub number_of_none : (length text == 0) ≡ false → position (λ row. bytes_eq text (name_of row)) rows ≡ None
      → option_map (λ k. k + 1) (place_in (map name_of rows) text) ≡ None
  number_of_none full none =
      let gone : place_in (map name_of rows) text ≡ None = none_if_gone _ (there_alike full ∙ ap is_some none) in
      rw gone refl

  -- A name has the number of the first row that has it.
  pub number_of_first : (i : ℕ) → (length text == 0) ≡ false → position (λ row. bytes_eq text (name_of row)) rows ≡ Some i
      → (i < length rows) × (option_map (λ k. k + 1) (place_in (map name_of rows) text) ≡ Some (number_of (row_at rows i)))
  number_of_first i full first =
      let found = position-Some (λ row. bytes_eq text (name_of row)) rows i no_row first in
      let same : text ≡ name_of (row_at rows i) = (bytes_eq-Decides text (name_of (row_at rows i))).0 found.1 in (
        found.0,
        number_if_there (place_in (map name_of rows) text) (there_alike full ∙ ap is_some first)
            ∙ ap Some (ap (number_in (map name_of rows)) same ∙ sym (numbered i no_row found.0)),
      )

  -- So a row has the number.
  pub number_is_had : (n : ℕ) → option_map (λ k. k + 1) (place_in (map name_of rows) text) ≡ Some n
      → (1 ≤ n) × ((i : ℕ) × (i < length rows) × (number_of (row_at rows i) ≡ n))
  number_is_had n is = (least_number _ n is, by_length (length text == 0) refl)
    where
      by_first : (o : Option ℕ) → (length text == 0) ≡ false → position (λ row. bytes_eq text (name_of row)) rows ≡ o
          → (i : ℕ) × (i < length rows) × (number_of (row_at rows i) ≡ n)
      by_first None full none = let h = number_of_none full none in cc
      by_first (Some i) full first =
          let h = number_of_first i full first in
          let e : number_of (row_at rows i) ≡ n = cc in
          (i, h.0, e)

      by_length : (b : Bool) → (length text == 0) ≡ b → (i : ℕ) × (i < length rows) × (number_of (row_at rows i) ≡ n)
      by_length true empty = let h = no_number rows name_of text empty in cc
      by_length false full = by_first (position (λ row. bytes_eq text (name_of row)) rows) full refl

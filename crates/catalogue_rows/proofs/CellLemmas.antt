-- The texts of cells.
use Rattle.std.proofs.Common.{◌≡◌, ◌∙◌, sym, ap, refl, ℕ, ◌<◌, List, [], length, slice_index_or, Option, Some, None, option_map, unwrap_or, Bor}
use Rattle.std.proofs.lemmas.List.{get_or-map}
use Rattle.table_reader.specs.Tables.{TableData, place_of, field_of}
use Rattle.catalogue_rows.specs.Cells.{text_at, text_of}

-- A row's text is that of its record.
pub text_in_record : (table : TableData) (k c : ℕ) → k < length table.records → text_of table k c ≡ text_at (place_of table c) (slice_index_or table.records k [])
text_in_record table k c inside = get_or-map (text_at (place_of table c)) table.records k [] [] inside

-- The field that is read, and the empty text where there is none.
pub text_is_read : (table : TableData) (k c : ℕ) (field : Option (Bor (List ℕ))) (none : Bor (List ℕ)) → k < length table.records → none.now ≡ []
    → option_map (λ s. s.now) field ≡ field_of table k c → (unwrap_or field none).now ≡ text_of table k c
text_is_read table k c field none inside empty read = by_field field empty ∙ ap (λ o. unwrap_or o []) read ∙ sym (text_in_record table k c inside)
  where
    by_field : (o : Option (Bor (List ℕ))) → none.now ≡ [] → (unwrap_or o none).now ≡ unwrap_or (option_map (λ s. s.now) o) []
    by_field None e = e
    by_field (Some s) e = refl

-- The text that a writer puts out row by row, and the records that csv cuts from it.
use Rattle.std.proofs.Common.{◌≡◌, ◌∙◌, sym, ap, refl, arith, ℕ, zero, suc, ◌+◌, ◌<◌, ◌≤◌, List, [], ◌∷◌, ◌++◌, length, map, take, get_or, length-append}
use Rattle.std.specs.List.{concat}
use Rattle.std.proofs.lemmas.List.{append-nil, map_more, map-append}
use Rattle.std.proofs.lemmas.List.Folds.{concat-append}
use Rattle.csv.specs.Machine.{next_record}
use Rattle.csv.specs.Reading.{default_config, records_from, strip_bom}
use Rattle.csv.specs.Writing.{default_writer, row_body, row_text, fields_text, is_blank, read_back}
use Rattle.csv.specs.declared.parser.State.TheVariants as st
use Rattle.csv.proofs.RoundTrip.{read-write}
use Rattle.table_reader.specs.Records.{records_of}
use Rattle.catalogue_rows.specs.Rows.{RowData}
use Rattle.catalogue_rows.specs.ProductTables.{product_columns}
use Rattle.catalogue_rows.specs.PrintedProducts.{product_fields, products_text}

-- The text of records in a row.
abbrev text_of_all : List (List (List ℕ)) → List ℕ
text_of_all records = concat (map (row_text default_writer) records)

-- The header alone.
pub header_alone : products_text [] ≡ row_text default_writer product_columns
header_alone = append-nil (row_text default_writer product_columns)

-- One more row.
pub row_more : (rows : List RowData) (i : ℕ) (row : RowData) → i < length rows → row ≡ get_or rows i row
    → products_text (take (i + 1) rows) ≡ products_text (take i rows) ++ row_text default_writer (product_fields row)
row_more rows i row inside at =
    let records : List (List (List ℕ)) = product_columns ∷ map product_fields (take i rows) in
    let last : List (List ℕ) = product_fields row in
    ap (λ more. text_of_all (product_columns ∷ more)) (map_more product_fields rows i row inside)
    ∙ ap (λ there. text_of_all (records ++ product_fields there ∷ [])) (sym at)
    ∙ ap concat (map-append (row_text default_writer) records (last ∷ []))
    ∙ concat-append (map (row_text default_writer) records) (row_text default_writer last ∷ [])
    ∙ ap (λ text. text_of_all records ++ text) (append-nil (row_text default_writer last))

-- Each record takes a byte at least.
record_takes : (fields : List (List ℕ)) → 1 ≤ length (row_text default_writer fields)
record_takes fields = line_end (row_body default_writer fields) _
  where
    line_end : (body blank : List ℕ) → 1 ≤ length (body ++ (blank ++ (10 ∷ [])))
    line_end body blank = simp length-append (omega arith)

long_enough : (records : List (List (List ℕ))) → length records ≤ length (text_of_all records)
long_enough [] = omega arith
long_enough (fields ∷ records) =
    let rest = long_enough records in
    let some = record_takes fields in
    omega (arith, length-append (row_text default_writer fields) (text_of_all records))

-- The default reader reads the records again, with turns enough.
records_again : (n : ℕ) (records : List (List (List ℕ))) → length records ≤ n
    → records_from default_config n st.StartRecord (text_of_all records) ≡ map read_back records
unfolding records_from next_record
records_again zero [] room = refl
records_again zero (fields ∷ records) room = absurd (omega arith)
records_again (suc n) [] room = refl
records_again (suc n) (fields ∷ records) room =
    rw (read-write fields (text_of_all records)) (ap (λ more. read_back fields ∷ more) (records_again n records (omega arith)))

-- The text begins with no byte order mark.
no_mark : (rows : List RowData) → strip_bom (products_text rows) ≡ products_text rows
unfolding strip_bom fields_text is_blank
no_mark rows = refl

-- No record of a row is without fields.
fields_again : (rows : List RowData) → map read_back (map product_fields rows) ≡ map product_fields rows
fields_again [] = refl
fields_again (row ∷ rows) = ap (λ more. product_fields row ∷ more) (fields_again rows)

-- The printed text is cut into the header and the rows' fields.
pub printed_records : (rows : List RowData) → records_of (products_text rows) ≡ product_columns ∷ map product_fields rows
printed_records rows =
    let records : List (List (List ℕ)) = product_columns ∷ map product_fields rows in
    let long = long_enough records in
    rw (no_mark rows) (records_again (length (products_text rows) + 1) records (omega arith)
    ∙ ap (λ more. product_columns ∷ more) (fields_again rows))

-- The catalogue of given margins: products p0, p1 and so on, in which all else is at its default. Own.
use Rattle.std.specs.Prelude.{ℕ, List, ◌++◌, length, map, codes, decimal, slice_index_or}
use Rattle.std.specs.List.{range_with_len}
use Rattle.offer_model.specs.Problems.{no_product}
use Rattle.catalogue_rows.specs.Rows.{RowData, no_row}

-- The name of product k: a p and the number of the product, from 0.
abbrev pub plain_name : ℕ → List ℕ
plain_name k = codes "p" ++ decimal k

-- Product k with a margin: no attraction, shadow, space, price, grade or arrivals, no category and no ladder.
abbrev pub plain_row : ℕ → ℕ → RowData
plain_row k margin = record no_row { name = plain_name k; product = record no_product { margin = margin } }

-- A product of each margin.
abbrev pub plain_rows : List ℕ → List RowData
plain_rows margins = map (λ k. plain_row k (slice_index_or margins k 0)) (range_with_len 0 (length margins))

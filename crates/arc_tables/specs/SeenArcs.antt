-- What the first rows of an arcs file say, as a table of pairs and of parts. Own.
use Rattle.std.specs.Prelude.{◌≡◌, ℕ, ◌+◌, ◌*◌, ◌<◌, Bool, false, List, length, slice_index, slice_index_or}
use Rattle.std.specs.List.{list_any}
use Rattle.offer_model.specs.declared.arc.Arc.{Arc}
use Rattle.table_reader.specs.Tables.{TableData}
use Rattle.catalogue_rows.specs.Rows.{RowData}
use Rattle.arc_tables.specs.ArcTables.{arcs_before, same_ends, parts_from}

-- The number of products, the arcs in file order and the room for further ones, for each pair of products whether it has one, and the parts from each.
pub record SeenData : Type 0 where
  pub count : ℕ
  pub arcs : List Arc
  pub spare : ℕ
  pub pairs : List Bool
  pub parts : List ℕ

-- An arc between these products.
abbrev pub arc_between : ℕ → ℕ → Arc
arc_between a b = record { from = a; to = b; parts = 0 }

-- The first k data rows state what was seen.
pub record HasSeenArcs (rows : List RowData) (scale : ℕ) (table : TableData) (k : ℕ) (s : SeenData) : Type 0 where
  pub count : s.count ≡ length rows
  pub arcs : s.arcs ≡ arcs_before rows table k
  pub pairs_each : length s.pairs ≡ length rows * length rows
  pub pairs : (a b : ℕ) → a < length rows → b < length rows
      → slice_index_or s.pairs (a * length rows + b) false ≡ list_any (same_ends (arc_between a b)) s.arcs
  pub parts_each : length s.parts ≡ length rows
  pub parts : (i : ℕ) → i < length rows → slice_index s.parts i ≡ parts_from s.arcs i
  pub small : (i : ℕ) → i < length rows → slice_index s.parts i < scale

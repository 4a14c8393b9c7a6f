-- Segments whose heads were read, before all their rows are. Own.
use Rattle.std.specs.Prelude.{◌≡◌, ◌≢◌, ℕ, ◌+◌, ◌<◌, ◌≤◌, true, List, length, map, is_some, sum_by, count_by, AllPairs}
use Rattle.offer_model.specs.declared.ranges.TheConstants.{MOST_AMOUNT, MOST_SEGMENTS}
use Rattle.table_reader.specs.Tables.{TableData, is_among}
use Rattle.catalogue.specs.declared.segment_rows.SeenSegments.{SeenSegments}
use Rattle.catalogue_rows.specs.Rows.{RowData}
use Rattle.catalogue.specs.Drafts.{DraftData}
use Rattle.catalogue.specs.SegmentTables.{segment_text, row_size, row_weight, heads_before, names_before, sizes_before, attractions_before}

-- What the first n data rows say of the segment that data row k begins.
abbrev pub draft_begun : List RowData → TableData → ℕ → ℕ → DraftData
draft_begun rows table n k = record {
  name = segment_text table k;
  size = row_size table k;
  none = row_weight table k;
  attract = attractions_before rows table n (segment_text table k);
}

-- The same of all segments that they begin.
abbrev pub drafts_before : List RowData → TableData → ℕ → List DraftData
drafts_before rows table n = map (draft_begun rows table n) (heads_before table n)

-- How many attractions rows said of a segment.
abbrev pub attractions_said : DraftData → ℕ
attractions_said draft = count_by is_some draft.attract

-- Two heads have different names.
abbrev pub BeginOthers : TableData → ℕ → ℕ → Type 0
BeginOthers table a b = segment_text table a ≢ segment_text table b

-- This is what the first k data rows, none of which has a fault, say over a catalogue: the segments' names, each once, what is
-- known of each segment, and the sum of the sizes. Each row names a segment of a head up to it, and says a size or an attraction.
pub record HasSeenSegments (rows : List RowData) (unit : ℕ) (table : TableData) (k : ℕ) (seen : SeenSegments) : Type 0 where
  pub names : seen.names ≡ names_before table k
  pub once : AllPairs (BeginOthers table) (heads_before table k)
  pub known : (j : ℕ) → j < k → is_among (segment_text table j) (names_before table k) ≡ true
  pub drafts : seen.drafts.items ≡ drafts_before rows table k
  pub few : length (heads_before table k) ≤ MOST_SEGMENTS
  pub counted : k ≡ length (heads_before table k) + sum_by attractions_said (drafts_before rows table k)
  pub sizes : seen.sizes ≡ sizes_before unit table k
  pub small : seen.sizes ≤ MOST_AMOUNT

-- The problem that a catalogue and its limits are. Own.
use Rattle.std.specs.Prelude.{◌≡◌, ℕ, ◌*◌, ◌≤◌, List, [], ◌∷◌, length, map, sum_by, All}
use Rattle.offer_model.specs.declared.products.Limit.{Limit}
use Rattle.offer_model.specs.declared.products.ModelName.{ModelName}
use Rattle.offer_model.specs.declared.products.ModelName.TheVariants.{Logit, Attract, Mixed, Chain}
use Rattle.offer_model.specs.declared.ranges.TheConstants.{MOST_AMOUNT, MOST_SEGMENTS}
use Rattle.offer_model.specs.Problems.{SegmentData, ProblemData, shadow_of}
use Rattle.offer_model.specs.Validity.{IsPositiveAmount, IsSegment}
use Rattle.catalogue_rows.specs.Rows.{RowData}
use Rattle.catalogue.specs.SegmentTables.{NamedSegment}

-- The shadow attraction that counts: none but under generalised attraction.
abbrev pub shadow_under : ModelName → RowData → ℕ
shadow_under Logit row = 0
shadow_under Attract row = row.shadow
shadow_under Mixed row = 0
shadow_under Chain row = 0

-- All customers as one segment, with this weight of buying nothing.
abbrev pub segment_of : List RowData → ModelName → ℕ → SegmentData
segment_of rows model none = record {
  size = 1;
  none = none;
  attract = map (λ row. row.attraction) rows;
  shadow = map (shadow_under model) rows;
}

-- The segments of the customers: those of a segments file under mixed logit, else the one of the catalogue.
abbrev pub segments_under : List RowData → ModelName → ℕ → List NamedSegment → List SegmentData
segments_under rows Logit none segments = segment_of rows Logit none ∷ []
segments_under rows Attract none segments = segment_of rows Attract none ∷ []
segments_under rows Mixed none segments = map (λ named. named.segment) segments
segments_under rows Chain none segments = segment_of rows Chain none ∷ []

-- The catalogue's products, the model's segments and the limits.
abbrev pub problem_data_of : List RowData → ModelName → ℕ → ℕ → List NamedSegment → List Limit → ProblemData
problem_data_of rows model none unit segments limits = record {
  model = model;
  unit = unit;
  products = map (λ row. row.product) rows;
  segments = segments_under rows model none segments;
  limits = limits;
}

-- The segments may stand in the catalogue's problem under this unit: both in their ranges, not too many, an attraction for each
-- product, no shadows, and the sum of size times unit not too great.
pub record FitSegments (rows : List RowData) (unit : ℕ) (segments : List NamedSegment) : Type 0 where
  pub in_range : IsPositiveAmount unit
  pub few : length segments ≤ MOST_SEGMENTS
  pub ranges : All (λ named. IsSegment named.segment) segments
  pub each : All (λ named. length named.segment.attract ≡ length rows) segments
  pub plain : All (λ named. (i : ℕ) → shadow_of named.segment i ≡ 0) segments
  pub sizes : sum_by (λ named. named.segment.size * unit) segments ≤ MOST_AMOUNT

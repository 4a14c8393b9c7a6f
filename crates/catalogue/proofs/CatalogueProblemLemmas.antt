-- The problem of a catalogue is a problem.
use Rattle.std.proofs.Common.{◌≡◌, ◌∙◌, ◌≢◌, ℕ, ◌+◌, ◌*◌, ◌≤◌, List, [], ◌∷◌, ◌++◌, length, take, map, sum_by, get_or, slice_index, All, Some, slice_get, sym, refl, arith}
use Prim.Native.Nat.{zero, suc}
use Rattle.std.proofs.lemmas.List.{length-map, take_more}
use Rattle.std.proofs.lemmas.List.Elements.{All-nil, All-cons, All-head, All-tail, All-map}
use Rattle.std.proofs.lemmas.List.Folds.{fold-map}
use Rattle.std.proofs.lemmas.Option.{slice_get_within, get_or_from_slice_get}
use Rattle.offer_model.specs.declared.products.Limit.{Limit}
use Rattle.offer_model.specs.declared.products.ModelName.{ModelName}
use Rattle.offer_model.specs.declared.products.ModelName.TheVariants.{Logit, Attract, Mixed, Chain}
use Rattle.offer_model.specs.declared.ranges.TheConstants.{MOST_AMOUNT}
use Rattle.offer_model.specs.Problems.{SegmentData, ProblemData, product_count, shadow_of}
use Rattle.offer_model.specs.Validity.{IsPositiveAmount, IsProduct, IsSegment, IsRatioModel, IsPlainModel, IsProblem, HasLimits}
use Rattle.catalogue_rows.specs.Rows.{RowData, no_row, row_at, IsCatalogue, KeepsShadows}
use Rattle.catalogue.specs.CatalogueProblems.{shadow_under, segment_of, problem_data_of, FitSegments}
use Rattle.catalogue.specs.SegmentTables.{NamedSegment}

-- One more item, read by its place.
pub take_read : {X : Type 0} (xs : List X) (i : ℕ) (x : X) → slice_get xs i ≡ Some x → take (i + 1) xs ≡ take i xs ++ x ∷ []
take_read xs i x read = rw (take_more xs i x (slice_get_within xs i x read), get_or_from_slice_get xs i x x read) refl

-- What holds of each row, and of no row, holds at each place.
pub at_each : (P : RowData → Type 0) → P no_row → (rows : List RowData) → All P rows → (i : ℕ) → P (row_at rows i)
at_each P none [] each i = none
at_each P none (r ∷ rs) each zero = All-head P r rs each
at_each P none (r ∷ rs) each (suc i) = at_each P none rs (All-tail P r rs each) i

-- A column at a place is that number of the row there.
pub column_at : (f : RowData → ℕ) → f no_row ≡ 0 → (rows : List RowData) (i : ℕ) → slice_index (map f rows) i ≡ f (row_at rows i)
column_at f none [] i = sym none
column_at f none (r ∷ rs) zero = refl
column_at f none (r ∷ rs) (suc i) = column_at f none rs i

-- No row has no shadow.
no_shadow : (model : ModelName) → shadow_under model no_row ≡ 0
no_shadow Logit = refl
no_shadow Attract = refl
no_shadow Mixed = refl
no_shadow Chain = refl

-- No shadow that counts is above its attraction.
pub shadow_kept : (model : ModelName) (row : RowData) → (model ≡ Attract → row.shadow ≤ row.attraction) → shadow_under model row ≤ row.attraction
shadow_kept Logit row keeps = omega arith
shadow_kept Attract row keeps = keeps refl
shadow_kept Mixed row keeps = omega arith
shadow_kept Chain row keeps = omega arith

-- The one segment is in range.
pub catalogue_segment : (rows : List RowData) (model : ModelName) (none : ℕ) → IsCatalogue rows → IsPositiveAmount none
    → (model ≡ Attract → KeepsShadows rows) → IsSegment (segment_of rows model none)
catalogue_segment rows model none valid some keeps = record {
  size = (omega arith, omega arith);
  none = some;
  each = length-map rows (shadow_under model) ∙ sym (length-map rows (λ row. row.attraction));
  attraction = λ i. rw (column_at (λ row. row.attraction) refl rows i)
      (at_each (λ row. row.attraction ≤ MOST_AMOUNT) (omega arith) rows (λ k d inside. (valid.each k d inside).attraction) i);
  shadow = λ i. rw (column_at (shadow_under model) (no_shadow model) rows i, column_at (λ row. row.attraction) refl rows i)
      (at_each (λ row. shadow_under model row ≤ row.attraction) (rw no_shadow (omega arith)) rows
      (λ k d inside. shadow_kept model (get_or rows k d) (λ e. keeps e k d inside)) i);
}

-- Where shadows play no part they are 0.
pub plain_shadow : (rows : List RowData) (model : ModelName) (none : ℕ) → IsRatioModel model → IsPlainModel model
    → (i : ℕ) → shadow_of (segment_of rows model none) i ≡ 0
plain_shadow rows Logit none ratio plain i = column_at (shadow_under Logit) refl rows i
plain_shadow rows Attract none ratio plain i = absurd plain
plain_shadow rows Mixed none ratio plain i = absurd ratio
plain_shadow rows Chain none ratio plain i = absurd ratio

-- The problem of one segment is in range and fits together.
module _ (rows : List RowData) (model : ModelName) (none unit : ℕ) (limits : List Limit) where
  abbrev of_one : ProblemData
  of_one = record {
    model = model;
    unit = unit;
    products = map (λ row. row.product) rows;
    segments = segment_of rows model none ∷ [];
    limits = limits;
  }

  one_segment_problem : IsCatalogue rows → model ≢ Chain → IsRatioModel model → IsPositiveAmount none → unit ≡ 1 → HasLimits of_one
      → (model ≡ Attract → KeepsShadows rows) → IsProblem of_one
  one_segment_problem valid no_chain ratio some one given keeps =
      let few = valid.few in
      record {
        model = no_chain;
        unit = (omega arith, omega arith);
        few = rw length-map few;
        products = All-map IsProduct (λ row. row.product) rows (λ k d inside. (valid.each k d inside).product);
        few_segments = omega arith;
        segments = All-cons IsSegment (segment_of rows model none) [] (catalogue_segment rows model none valid some keeps) (All-nil IsSegment);
        each = All-cons (λ g. length g.attract ≡ product_count of_one) (segment_of rows model none) []
            (length-map rows (λ row. row.attraction) ∙ sym (length-map rows (λ row. row.product))) (All-nil _);
        sizes = omega arith;
        limits = given;
        single = λ _. (one, refl, refl);
        plain = λ plain. All-cons (λ g. (i : ℕ) → shadow_of g i ≡ 0) (segment_of rows model none) [] (plain_shadow rows model none ratio plain) (All-nil _);
      }

-- A sum over segments doesn't read their names.
sum_of_named : (f : SegmentData → ℕ) (segments : List NamedSegment)
    → sum_by f (map (λ named. named.segment) segments) ≡ sum_by (λ named. f named.segment) segments
sum_of_named f segments = fold-map (λ a x. a + f x) (λ named. named.segment) 0 segments

-- So is the problem of segments that fit.
mixed_problem : (rows : List RowData) (none unit : ℕ) (segments : List NamedSegment) (limits : List Limit) → IsCatalogue rows
    → HasLimits (problem_data_of rows Mixed none unit segments limits) → FitSegments rows unit segments
    → IsProblem (problem_data_of rows Mixed none unit segments limits)
mixed_problem rows none unit segments limits valid given fits =
    let few = valid.few in
    let few_segments = fits.few in
    record {
      model = λ e. cc;
      unit = fits.in_range;
      few = rw length-map few;
      products = All-map IsProduct (λ row. row.product) rows (λ k d inside. (valid.each k d inside).product);
      few_segments = rw length-map few_segments;
      segments = All-map IsSegment (λ named. named.segment) segments fits.ranges;
      each = All-map (λ g. length g.attract ≡ product_count (problem_data_of rows Mixed none unit segments limits)) (λ named. named.segment) segments
          (λ k d inside. fits.each k d inside ∙ sym (length-map rows (λ row. row.product)));
      sizes = rw (sum_of_named (λ g. g.size * unit) segments) fits.sizes;
      limits = given;
      single = λ ratio. absurd ratio;
      plain = λ _. All-map (λ g. (i : ℕ) → shadow_of g i ≡ 0) (λ named. named.segment) segments fits.plain;
    }

-- The catalogue's problem is in range and fits together.
pub catalogue_problem : (rows : List RowData) (model : ModelName) (none unit : ℕ) (segments : List NamedSegment) (limits : List Limit)
    → IsCatalogue rows → model ≢ Chain → HasLimits (problem_data_of rows model none unit segments limits)
    → (IsRatioModel model → IsPositiveAmount none) → (IsRatioModel model → unit ≡ 1) → (model ≡ Attract → KeepsShadows rows)
    → (model ≡ Mixed → FitSegments rows unit segments)
    → IsProblem (problem_data_of rows model none unit segments limits)
catalogue_problem rows Logit none unit segments limits valid no_chain given some one keeps fits =
    one_segment_problem rows Logit none unit limits valid no_chain tt (some tt) (one tt) given keeps
catalogue_problem rows Attract none unit segments limits valid no_chain given some one keeps fits =
    one_segment_problem rows Attract none unit limits valid no_chain tt (some tt) (one tt) given keeps
catalogue_problem rows Mixed none unit segments limits valid no_chain given some one keeps fits =
    mixed_problem rows none unit segments limits valid given (fits refl)
catalogue_problem rows Chain none unit segments limits valid no_chain given some one keeps fits = absurd (no_chain refl)

-- Reports that were worked by hand.
use Rattle.std.specs.Prelude.{◌≡◌, ℕ, true, false, List, [], ◌∷◌, map, codes, Some, None}
use Rattle.offer_model.specs.declared.products.ModelName.TheVariants.{Mixed}
use Rattle.offer_model.specs.Problems.{ProblemData}
use Rattle.offer_model.specs.WorkedValues.{plain_product, one_of_two, a_shadow}
use Rattle.catalogue_rows.specs.Rows.{RowData, no_row}
use Rattle.catalogue.specs.SegmentTables.{NamedSegment}
use Rattle.eval_reports.specs.EvalReports.{eval_report}

abbrev pub named_row : List ℕ → RowData
named_row name = record no_row { name = name }

abbrev pub two_rows : List RowData
two_rows = named_row (codes "A") ∷ named_row (codes "B") ∷ []

abbrev pub three_rows : List RowData
three_rows = named_row (codes "A") ∷ named_row (codes "B") ∷ named_row (codes "C") ∷ []

-- Two segments of sizes 4 and 2, and a product with margin 318 and attractions 23 and 21 in them.
abbrev pub home_and_office : List NamedSegment
home_and_office =
    record { name = codes "home"; segment = record { size = 4; none = 147; attract = 23 ∷ []; shadow = 0 ∷ [] } }
    ∷ record { name = codes "office"; segment = record { size = 2; none = 93; attract = 21 ∷ []; shadow = 0 ∷ [] } }
    ∷ []

abbrev pub two_segments : ProblemData
two_segments = record {
  model = Mixed;
  unit = 100;
  products = plain_product 318 ∷ [];
  segments = map (λ named. named.segment) home_and_office;
  limits = [];
}

-- A shadow stays where its product isn't offered, the first limit stands in row 2, and each segment has its own lines.
pub record ReportsAreWorked : Type 0 where
  pub shadow : eval_report three_rows [] a_shadow (true ∷ true ∷ false ∷ []) None
      ≡ codes "model attract\nset 110\nlimits met\nchance A 2/20\nchance B 3/20\nleave 15/20\nvalue 32/20\n"
  pub broken : eval_report two_rows [] one_of_two (true ∷ true ∷ []) (Some 0)
      ≡ codes "model logit\nset 11\nbreaks limits row 2\nchance A 2/6\nchance B 2/6\nleave 2/6\nvalue 40/6\n"
  pub mixed : eval_report (named_row (codes "A") ∷ []) home_and_office two_segments (true ∷ []) None
      ≡ codes "model mixed\nset 1\nlimits met\nsegment home size 4\nchance A 23/170\nleave 147/170\ngain 7314/170\nsegment office size 2\nchance A 21/114\nleave 93/114\ngain 6678/114\nvalue 28924\nunit 100\n"

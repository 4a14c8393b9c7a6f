-- What a given assortment brings, as it is printed: the first limit that it breaks, and in each segment what customers do. Own.
use Rattle.std.specs.Prelude.{◌≡◌, ℕ, ◌+◌, List, [], ◌∷◌, ◌++◌, Bool, true, false, codes, decimal, map, Option, Some, None}
use Rattle.offer_model.specs.declared.products.Fraction.{Fraction}
use Rattle.offer_model.specs.declared.products.ModelName.{ModelName}
use Rattle.offer_model.specs.declared.products.ModelName.TheVariants.{Logit, Attract, Mixed, Chain}
use Rattle.offer_model.specs.Assortments.{offers}
use Rattle.offer_model.specs.Problems.{SegmentData, ProblemData, first_segment}
use Rattle.offer_model.specs.Revenue.{gain_of, weight_of, chance_of, leave_of}
use Rattle.limit_rules.specs.Broken.{IsFirstBroken}
use Rattle.catalogue_rows.specs.Rows.{RowData}
use Rattle.catalogue.specs.SegmentTables.{NamedSegment}
use Rattle.assort_reports.specs.Reports.{model_text, set_line, value_lines}

-- Under mixed logit the named segments are the problem's.
abbrev pub HoldsSegments : List NamedSegment → ProblemData → Type 0
HoldsSegments segments p = p.model ≡ Mixed → map (λ named. named.segment) segments ≡ p.segments

-- A fraction, unreduced.
abbrev pub fraction_text : Fraction → List ℕ
fraction_text f = decimal f.num ++ codes "/" ++ decimal f.den ++ codes "\n"

abbrev pub model_line : ModelName → List ℕ
model_line model = codes "model " ++ model_text model ++ codes "\n"

-- All limits are met, or the row of the first that is broken. The limits stand from row 2 on.
abbrev pub verdict_line : Option ℕ → List ℕ
verdict_line None = codes "limits met\n"
verdict_line (Some k) = codes "breaks limits row " ++ decimal (k + 2) ++ codes "\n"

-- The chance that a product is bought.
abbrev pub chance_line : List ℕ → Fraction → List ℕ
chance_line name chance = codes "chance " ++ name ++ codes " " ++ fraction_text chance

abbrev pub chance_line_if : Bool → List ℕ → Fraction → List ℕ
chance_line_if true name chance = chance_line name chance
chance_line_if false name chance = []

-- A line for each product that is offered, in catalogue order. These rows are those from product i on.
abbrev pub chance_lines_from : ProblemData → List Bool → SegmentData → ℕ → List RowData → List ℕ
chance_lines_from p x g i [] = []
chance_lines_from p x g i (row ∷ rows) = chance_line_if (offers x i) row.name (chance_of p g x i) ++ chance_lines_from p x g (i + 1) rows

-- What the customers of a segment do: the chances of what is offered, and that of buying nothing.
abbrev pub choice_lines : List RowData → ProblemData → List Bool → SegmentData → List ℕ
choice_lines rows p x g = chance_lines_from p x g 0 rows ++ codes "leave " ++ fraction_text (leave_of p g x)

-- A segment's name and size.
abbrev pub segment_line : List ℕ → ℕ → List ℕ
segment_line name size = codes "segment " ++ name ++ codes " size " ++ decimal size ++ codes "\n"

-- What is earned in a segment, as gain over weight, unreduced.
abbrev pub gain_line : ProblemData → List Bool → SegmentData → List ℕ
gain_line p x g = codes "gain " ++ fraction_text (record { num = gain_of p g x; den = weight_of p g x })

-- A segment of mixed logit: its name and size, what its customers do, and what is earned there.
abbrev pub segment_lines : List RowData → ProblemData → List Bool → List ℕ → SegmentData → List ℕ
segment_lines rows p x name g = segment_line name g.size ++ choice_lines rows p x g ++ gain_line p x g

-- The segments in their order.
abbrev pub all_segment_lines : List RowData → ProblemData → List Bool → List NamedSegment → List ℕ
all_segment_lines rows p x [] = []
all_segment_lines rows p x (named ∷ segments) =
    segment_lines rows p x named.name named.segment ++ all_segment_lines rows p x segments

abbrev pub choices_under : ModelName → List RowData → List NamedSegment → ProblemData → List Bool → List ℕ
choices_under Logit rows segments p x = choice_lines rows p x (first_segment p)
choices_under Attract rows segments p x = choice_lines rows p x (first_segment p)
choices_under Mixed rows segments p x = all_segment_lines rows p x segments
choices_under Chain rows segments p x = []

-- The report of an assortment and the first limit that it breaks, if there is one.
abbrev pub eval_report : List RowData → List NamedSegment → ProblemData → List Bool → Option ℕ → List ℕ
eval_report rows segments p x broken =
    model_line p.model ++ set_line x ++ verdict_line broken ++ choices_under p.model rows segments p x ++ value_lines p x

-- The text is the report of the assortment, with the limit that it breaks first.
abbrev pub IsEvalReport : List RowData → List NamedSegment → ProblemData → List Bool → List ℕ → Type 0
IsEvalReport rows segments p x text =
    (broken : Option ℕ) × IsFirstBroken p x broken × (text ≡ eval_report rows segments p x broken)

-- What the commands print. Own.
use Rattle.std.specs.Prelude.{ℕ, List, [], ◌∷◌, ◌++◌, Bool, true, false, codes, decimal, length, map}
use Rattle.offer_model.specs.declared.products.ModelName.{ModelName}
use Rattle.offer_model.specs.declared.products.ModelName.TheVariants.{Logit, Attract, Mixed, Chain}
use Rattle.offer_model.specs.Problems.{ProblemData, product_count, first_segment}
use Rattle.offer_model.specs.Revenue.{gain_of, weight_of, value_of}
use Rattle.offer_model.specs.Stopping.{StoppingData}
use Rattle.catalogue_rows.specs.Rows.{RowData}

abbrev pub model_text : ModelName → List ℕ
model_text Logit = codes "logit"
model_text Attract = codes "attract"
model_text Mixed = codes "mixed"
model_text Chain = codes "chain"

-- 1 for a product that is offered, 0 for another.
abbrev pub digit_of : Bool → ℕ
digit_of true = 49
digit_of false = 48

-- An assortment as digits in catalogue order, - without products.
abbrev pub word_text : List Bool → List ℕ
word_text [] = codes "-"
word_text (b ∷ x) = map digit_of (b ∷ x)

-- The model and the number of products.
abbrev pub head_lines : ModelName → ℕ → List ℕ
head_lines model products = codes "model " ++ model_text model ++ codes "\nproducts " ++ decimal products ++ codes "\n"

-- The assortment.
abbrev pub set_line : List Bool → List ℕ
set_line x = codes "set " ++ word_text x ++ codes "\n"

-- What it earns, as gain over weight, unreduced.
abbrev pub ratio_line : ProblemData → List Bool → List ℕ
ratio_line p x = codes "value " ++ decimal (gain_of p (first_segment p) x) ++ codes "/" ++ decimal (weight_of p (first_segment p) x) ++ codes "\n"

-- What it brings in all segments, and the unit to which each segment's revenue is rounded down.
abbrev pub mixed_lines : ProblemData → List Bool → List ℕ
mixed_lines p x = codes "value " ++ decimal (value_of p x) ++ codes "\nunit " ++ decimal p.unit ++ codes "\n"

abbrev pub value_lines_under : ModelName → ProblemData → List Bool → List ℕ
value_lines_under Logit p x = ratio_line p x
value_lines_under Attract p x = ratio_line p x
value_lines_under Mixed p x = mixed_lines p x
value_lines_under Chain p x = []

abbrev pub value_lines : ProblemData → List Bool → List ℕ
value_lines p x = value_lines_under p.model p x

-- A product that is offered.
abbrev pub offer_line : List ℕ → List ℕ
offer_line name = codes "offer " ++ name ++ codes "\n"

abbrev pub offer_line_if : Bool → List ℕ → List ℕ
offer_line_if true name = offer_line name
offer_line_if false name = []

-- A line for each product that is offered, in catalogue order.
abbrev pub offer_lines : List RowData → List Bool → List ℕ
offer_lines [] x = []
offer_lines (row ∷ rows) [] = []
offer_lines (row ∷ rows) (b ∷ x) = offer_line_if b row.name ++ offer_lines rows x

-- The report of an assortment.
abbrev pub problem_report : List RowData → ProblemData → List Bool → List ℕ
problem_report rows p x = head_lines p.model (product_count p) ++ offer_lines rows x ++ set_line x ++ value_lines p x

-- What a chain's assortment brings at least, and any assortment at most.
abbrev pub bound_lines : ℕ → ℕ → List ℕ
bound_lines lo up = codes "lower " ++ decimal lo ++ codes "\nupper " ++ decimal up ++ codes "\n"

-- The report of a chain's answer.
abbrev pub chain_report : List RowData → StoppingData → List ℕ
chain_report rows s = head_lines Chain (length rows) ++ offer_lines rows s.set ++ set_line s.set ++ bound_lines s.lo s.up

-- The report of trial inputs: the seed and the number of products, then the report of what was found for them.
abbrev pub trial_report : ℕ → ℕ → List ℕ → List ℕ
trial_report seed count report = codes "trial " ++ decimal seed ++ codes " " ++ decimal count ++ codes "\n" ++ report

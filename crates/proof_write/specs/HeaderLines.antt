-- The header of a certificate. Own.
use Rattle.std.specs.Prelude.{◌≡◌, ℕ, ◌≤◌, Bool, List, [], ◌∷◌, length}
use Rattle.offer_model.specs.declared.products.ModelName.{ModelName}
use Rattle.offer_model.specs.Problems.{ProblemData}
use Rattle.proof_lines.specs.declared.line.Line.{Line}
use Rattle.proof_lines.specs.declared.line.Shape.TheVariants as S
use Rattle.proof_lines.specs.Lines.{LineData, line, IsLine}
use Rattle.proof_lines.specs.Acceptance.{digits_of, value_numbers}
use Rattle.proof_tree.specs.Pens.{lines_data}

-- The header, with these numbers in its value line.
abbrev pub header_lines : ModelName → List Bool → List ℕ → List LineData
header_lines model x value = line S.Start [] ∷ line (S.Model model) [] ∷ line S.Set (digits_of x)
    ∷ line S.Value value ∷ []

-- These lines are the header of the assortment's certificate.
abbrev pub IsHeader : ProblemData → List Bool → List Line → Type 0
IsHeader p x lines = lines_data lines ≡ header_lines p.model x (value_numbers p x)

-- The line is the assortment's value line.
pub record IsValueLine (p : ProblemData) (x : List Bool) (l : LineData) : Type 0 where
  pub is : l ≡ line S.Value (value_numbers p x)
  pub grammar : IsLine S.Value (value_numbers p x)
  pub short : length (value_numbers p x) ≤ 3

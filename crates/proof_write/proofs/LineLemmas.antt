-- The lines of certificates are lines.
use Rattle.std.proofs.Common.{◌≡◌, ℕ, Bool, true, false, List, [], ◌∷◌, length, refl, sym, subst, arith, ◌<◌, ◌≤◌, ◌^◌}
use Rattle.std.specs.List.{AllByRecursion}
use Rattle.std.specs.Prelude.{All}
use Rattle.std.proofs.lemmas.List.Elements.{All-from_recursion}
use Rattle.std.proofs.lemmas.List.{length-map}
use Rattle.offer_model.specs.declared.ranges.TheConstants.{MOST_PRODUCTS}
use Rattle.offer_model.specs.Ranges.{gain_bound, weight_bound}
use Rattle.proof_lines.specs.declared.line.Shape.TheVariants as S
use Rattle.offer_model.specs.declared.products.ModelName.{ModelName}
use Rattle.proof_lines.specs.declared.line.Line.{Line}
use Rattle.proof_lines.specs.Lines.{LineData, IsLine, AreDigits}
use Rattle.proof_lines.specs.Lines.IsValue.{ratio, whole}
use Rattle.proof_lines.specs.Acceptance.{digit_of, digits_of, value_numbers, value_numbers_under}
use Rattle.offer_model.specs.declared.products.ModelName.TheVariants.{Logit, Attract, Mixed, Chain}
use Rattle.offer_model.specs.Problems.{ProblemData}
use Rattle.offer_model.specs.Revenue.{value_of}
use Rattle.proof_tree.specs.Pens.{IsWritable, line_data, lines_data}
use Rattle.proof_write.specs.HeaderLines.{header_lines}

digits-are : (x : List Bool) → AreDigits (digits_of x)
digits-are [] = tt
digits-are (true ∷ x) = (omega arith, digits-are x)
digits-are (false ∷ x) = (omega arith, digits-are x)

-- The digits of an assortment are a set line's.
pub set_is_line : (x : List Bool) → length x ≤ MOST_PRODUCTS → IsLine S.Set (digits_of x)
set_is_line x few = (let same = length-map x digit_of in omega arith, digits-are x)

-- A gain and a weight are a value line's.
pub ratio_is_line : (a b : ℕ) → a < gain_bound → b < weight_bound → IsLine S.Value (1 ∷ a ∷ b ∷ [])
ratio_is_line a b l m = ratio (omega arith) (omega arith)

-- A number of units is a value line's.
pub units_is_line : (a : ℕ) → a ≤ 10 ^ 18 → IsLine S.Value (0 ∷ a ∷ [])
units_is_line a l = whole (omega arith)

numbers_under : (m : ModelName) (p : ProblemData) (x : List Bool) → m ≡ Mixed → value_numbers_under m p x ≡ 0 ∷ value_of p x ∷ []
numbers_under Mixed p x e = refl
numbers_under Logit p x e = cc
numbers_under Attract p x e = cc
numbers_under Chain p x e = cc

-- Under mixed logit the value line has what all segments bring.
pub value_numbers_mixed : (p : ProblemData) (x : List Bool) → p.model ≡ Mixed → value_numbers p x ≡ 0 ∷ value_of p x ∷ []
value_numbers_mixed p x e = numbers_under p.model p x e

-- A product is a branch line's.
pub branch_is_line : (k : ℕ) → k < 2 ^ 64 → IsLine S.Branch (k ∷ [])
branch_is_line k l = (refl, (omega arith, tt))

-- ---- The header can be written.

lines_writable : (ls : List Line) (ds : List LineData) → lines_data ls ≡ ds → AllByRecursion (λ (d : LineData). IsLine d.shape d.numbers × (length d.numbers ≤ 1024)) ds
    → AllByRecursion IsWritable ls
lines_writable [] ds e h = tt
lines_writable (l ∷ ls) [] e h = cc
lines_writable (l ∷ ls) (d ∷ ds) e h =
    let same : line_data l ≡ d = cc in
    let own = subst (λ (z : LineData). IsLine z.shape z.numbers × (length z.numbers ≤ 1024)) (sym same) h.0 in
    (record { line = own.0; few = own.1 }, lines_writable ls ds (cc) h.1)

-- Each line of the header is a line of few numbers.
pub header_writable : (ls : List Line) (m : ModelName) (x : List Bool) (value : List ℕ) → lines_data ls ≡ header_lines m x value → length x ≤ MOST_PRODUCTS
    → IsLine S.Value value → length value ≤ 1024 → All IsWritable ls
header_writable ls m x value e few own short = All-from_recursion IsWritable ls (lines_writable ls (header_lines m x value) e (
  (refl, omega arith),
  (
    (refl, omega arith),
    ((set_is_line x few, let same = length-map x digit_of in omega arith), ((own, short), tt)),
  ),
))

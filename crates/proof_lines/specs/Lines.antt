-- The lines of certificates and their texts. Own.
use Rattle.std.specs.Prelude.{◌≡◌, ℕ, ◌+◌, ◌^◌, ◌<◌, ◌≤◌, List, [], ◌∷◌, ◌++◌, length, map, codes}
use Prim.Native.Nat.{zero, suc}
use Rattle.std.specs.List.{AllByRecursion}
use Rattle.std.specs.Fmt.{decimal}
use Rattle.offer_model.specs.declared.products.ModelName.{ModelName}
use Rattle.offer_model.specs.declared.products.ModelName.TheVariants.{Logit, Attract, Mixed, Chain}
use Rattle.proof_lines.specs.declared.line.Shape.{Shape}
use Rattle.proof_lines.specs.declared.line.Shape.TheVariants as S

-- A line is fixed by its shape and its numbers.
pub record LineData : Type 0 where
  pub shape : Shape
  pub numbers : List ℕ

abbrev pub line : Shape → List ℕ → LineData
line shape numbers = record { shape = shape; numbers = numbers }

-- ---- Which lines there are.

-- The greatest number of a line.
abbrev pub most_number : ℕ
most_number = 2 ^ 108

-- No number is above the greatest.
abbrev pub AreNumbers : List ℕ → Type 0
AreNumbers ns = AllByRecursion (λ n. n ≤ most_number) ns

-- Digits 0 and 1.
abbrev pub AreDigits : List ℕ → Type 0
AreDigits ds = AllByRecursion (λ d. d < 2) ds

-- A value line has one number (form 0), two as a fraction (form 1), or two as bounds (form 2).
pub data IsValue : List ℕ → Type 0 where
  whole : {a : ℕ} → a ≤ most_number → IsValue (zero ∷ a ∷ [])
  ratio : {a b : ℕ} → a ≤ most_number → b ≤ most_number → IsValue (suc zero ∷ a ∷ b ∷ [])
  bounds : {a b : ℕ} → a ≤ most_number → b ≤ most_number → IsValue (suc (suc zero) ∷ a ∷ b ∷ [])

-- The grammar: which numbers a line of each shape may have.
abbrev pub IsLine : Shape → List ℕ → Type 0
IsLine S.Start ns = ns ≡ []
IsLine (S.Model m) ns = ns ≡ []
IsLine S.Set ns = (length ns ≤ 512) × AreDigits ns
IsLine S.Value ns = IsValue ns
IsLine S.Branch ns = (length ns ≡ 1) × AreNumbers ns
IsLine S.Clash ns = ns ≡ []
IsLine S.Multipliers ns = AreNumbers ns
IsLine S.Shelf ns = ns ≡ []
IsLine S.Potentials ns = AreNumbers ns
IsLine S.Segments ns = AreNumbers ns
IsLine S.Upper ns = AreNumbers ns
IsLine S.Lower ns = AreNumbers ns
IsLine S.End ns = ns ≡ []

abbrev pub AreLines : List LineData → Type 0
AreLines ls = AllByRecursion (λ l. IsLine l.shape l.numbers) ls

-- ---- Their texts, as bytes.

-- Numbers in decimal, without leading zeros and with a space before each.
abbrev pub spaced : List ℕ → List ℕ
spaced [] = []
spaced (n ∷ ns) = 32 ∷ decimal n ++ spaced ns

abbrev pub model_text : ModelName → List ℕ
model_text Logit = codes "model logit"
model_text Attract = codes "model attract"
model_text Mixed = codes "model mixed"
model_text Chain = codes "model chain"

-- The digits, or a dash where there is none.
abbrev pub digits_text : List ℕ → List ℕ
digits_text [] = codes "-"
digits_text (d ∷ ds) = map (λ k. 48 + k) (d ∷ ds)

abbrev pub value_text : List ℕ → List ℕ
value_text (zero ∷ a ∷ []) = decimal a
value_text (suc zero ∷ a ∷ b ∷ []) = decimal a ++ (codes "/" ++ decimal b)
value_text (suc (suc zero) ∷ a ∷ b ∷ []) = decimal a ++ (codes " " ++ decimal b)
value_text _ = []

-- The text of a line, without its line feed.
abbrev pub line_text : Shape → List ℕ → List ℕ
line_text S.Start ns = codes "assort-proof 1"
line_text (S.Model m) ns = model_text m
line_text S.Set ns = codes "set " ++ digits_text ns
line_text S.Value ns = codes "value " ++ value_text ns
line_text S.Branch ns = codes "b" ++ spaced ns
line_text S.Clash ns = codes "x"
line_text S.Multipliers ns = codes "m" ++ spaced ns
line_text S.Shelf ns = codes "t"
line_text S.Potentials ns = codes "p" ++ spaced ns
line_text S.Segments ns = codes "s" ++ spaced ns
line_text S.Upper ns = codes "u" ++ spaced ns
line_text S.Lower ns = codes "h" ++ spaced ns
line_text S.End ns = codes "end"

-- The bytes are the text of some line.
abbrev pub IsLineText : List ℕ → Type 0
IsLineText bytes = (shape : Shape) × (numbers : List ℕ) × IsLine shape numbers × (line_text shape numbers ≡ bytes)

-- Lines, each with its line feed.
abbrev pub text_of : List LineData → List ℕ
text_of [] = []
text_of (l ∷ ls) = line_text l.shape l.numbers ++ 10 ∷ text_of ls

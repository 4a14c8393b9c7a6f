-- What the readers of a line's parts answer.
use Rattle.std.specs.Prelude.{◌≡◌, ℕ, ◌≤◌, ◌==◌, Bool, true, false, cond, List, [], ◌∷◌, ◌++◌, length, take, drop, Option, Some, None, decimal, slice_index}
use Rattle.std.specs.Char.{is_ascii_digit}
use Rattle.offer_model.specs.declared.products.ModelName.TheVariants.{Logit, Attract, Mixed, Chain}
use Rattle.proof_lines.specs.declared.line.Shape.{Shape}
use Rattle.proof_lines.specs.declared.line.Shape.TheVariants as S
use Rattle.proof_lines.specs.declared.numbers.Field.{Field}
use Rattle.proof_lines.specs.Lines.{most_number}

-- True: the numbers are of the kind and the bytes are their text. False: the bytes are the text of no such numbers.
abbrev pub Reads : (List ℕ → Type 0) → (List ℕ → List ℕ) → List ℕ → Bool → List ℕ → Type 0
Reads Is text bytes true ns = Is ns × (text ns ≡ bytes)
Reads Is text bytes false ns = (ms : List ℕ) → Is ms → text ms ≡ bytes → ⊥

-- No further digit follows.
abbrev pub IsPastDigits : List ℕ → Type 0
IsPastDigits [] = Unit {0}
IsPastDigits (c ∷ cs) = is_ascii_digit c ≡ false

-- The number n is written by the first bytes, and no further digit follows.
pub record StandsFirst (bytes : List ℕ) (n len : ℕ) : Type 0 where
  pub small : n ≤ most_number
  pub fits : len ≤ length bytes
  pub text : decimal n ≡ take len bytes
  pub past : IsPastDigits (drop len bytes)

-- The number that the bytes begin with, up to the first byte that is no digit; or they begin with no number.
abbrev pub FieldOf : List ℕ → Option Field → Type 0
FieldOf bytes (Some field) = StandsFirst bytes field.number field.len
FieldOf bytes None = (n : ℕ) (rest : List ℕ) → n ≤ most_number → IsPastDigits rest → decimal n ++ rest ≡ bytes → ⊥

-- The form of a value line that has this byte between its numbers.
abbrev pub form_between : ℕ → Option ℕ
form_between c = cond (c == 47) (Some 1) (cond (c == 32) (Some 2) None)

-- The model that a model line has whose seventh byte this is.
abbrev pub shape_of_model : ℕ → Shape
shape_of_model c = cond (c == 108) (S.Model Logit) (cond (c == 97) (S.Model Attract) (cond (c == 109) (S.Model Mixed) (S.Model Chain)))

-- The shape that a line has which begins in this way: no two shapes begin alike.
abbrev pub shape_by_head : List ℕ → Shape
shape_by_head bs = let c = slice_index bs 0 in let d = slice_index bs 1 in
    cond (c == 97) S.Start (cond (c == 101) S.End (cond (c == 118) S.Value (cond (c == 98) S.Branch (cond (c == 120) S.Clash
    (cond (c == 116) S.Shelf (cond (c == 112) S.Potentials (cond (c == 117) S.Upper (cond (c == 104) S.Lower
    (cond (c == 115) (cond (d == 101) S.Set S.Segments) (cond (d == 111) (shape_of_model (slice_index bs 6)) S.Multipliers))))))))))

-- Two lines of one text are one line.
use Rattle.std.proofs.Common.{◌≡◌, ℕ, false, List, [], ◌∷◌, ◌++◌, map, refl, sym, ◌∙◌, ap, subst, arith, ◌≤◌, ◌+◌, append-nil}
use Rattle.std.specs.Fmt.{decimal}
use Rattle.offer_model.specs.declared.products.ModelName.TheVariants.{Logit, Attract, Mixed, Chain}
use Rattle.proof_lines.specs.declared.line.Shape.{Shape}
use Rattle.proof_lines.specs.declared.line.Shape.TheVariants as S
use Rattle.proof_lines.specs.Lines.{most_number, digits_text, value_text, line_text, IsValue, IsLine}
use Rattle.proof_lines.specs.Lines.IsValue.{whole, ratio, bounds}
use Rattle.proof_lines.specs.Reading.{shape_by_head}
use Rattle.std.specs.Char.{is_ascii_digit}
use Rattle.proof_lines.proofs.NumberLemmas.{decimal_split}
use Rattle.proof_lines.proofs.SpacedLemmas.{spaced_one}

map_one : (ns ms : List ℕ) → map (λ k. 48 + k) ns ≡ map (λ k. 48 + k) ms → ns ≡ ms
map_one [] [] e = refl
map_one [] (m ∷ ms) e = cc
map_one (n ∷ ns) [] e = cc
map_one (n ∷ ns) (m ∷ ms) e = joined n m ns ms (let h : 48 + n ≡ 48 + m = cc in omega arith) (map_one ns ms cc)
  where
    joined : (n m : ℕ) (ns ms : List ℕ) → n ≡ m → ns ≡ ms → n ∷ ns ≡ m ∷ ms
    joined n m ns ms h r = cc

digits_one : (ns ms : List ℕ) → digits_text ns ≡ digits_text ms → ns ≡ ms
digits_one [] [] e = refl
digits_one [] (m ∷ ms) e = let h : 45 ≡ 48 + m = cc in absurd (omega arith)
digits_one (n ∷ ns) [] e = let h : 48 + n ≡ 45 = cc in absurd (omega arith)
digits_one (n ∷ ns) (m ∷ ms) e = map_one (n ∷ ns) (m ∷ ms) e

-- The first bytes tell the shape.
pub shape_is : (s : Shape) (ns : List ℕ) → shape_by_head (line_text s ns) ≡ s
shape_is S.Start ns = refl
shape_is (S.Model Logit) ns = refl
shape_is (S.Model Attract) ns = refl
shape_is (S.Model Mixed) ns = refl
shape_is (S.Model Chain) ns = refl
shape_is S.Set ns = refl
shape_is S.Value ns = refl
shape_is S.Branch ns = refl
shape_is S.Clash ns = refl
shape_is S.Multipliers [] = refl
shape_is S.Multipliers (n ∷ ns) = refl
shape_is S.Shelf ns = refl
shape_is S.Potentials ns = refl
shape_is S.Segments [] = refl
shape_is S.Segments (n ∷ ns) = refl
shape_is S.Upper ns = refl
shape_is S.Lower ns = refl
shape_is S.End ns = refl

two_same : (mark form a c b d : ℕ) → a ≤ most_number → c ≤ most_number → b ≤ most_number → d ≤ most_number → is_ascii_digit mark ≡ false
    → decimal a ++ mark ∷ decimal c ≡ decimal b ++ mark ∷ decimal d → form ∷ a ∷ c ∷ [] ≡ form ∷ b ∷ d ∷ []
two_same mark form a c b d ha hc hb hd low e =
    let r = decimal_split a b (mark ∷ decimal c) (mark ∷ decimal d) ha hb low low e in
    let tails : decimal c ≡ decimal d = cc in
    let q = decimal_split c d [] [] hc hd tt tt (append-nil (decimal c) ∙ tails ∙ sym (append-nil (decimal d))) in
    cc

value_one : {ns ms : List ℕ} → IsValue ns → IsValue ms → value_text ns ≡ value_text ms → ns ≡ ms
value_one (whole {a = a} h) (whole {a = b} k) e =
    let r = decimal_split a b [] [] h k tt tt (append-nil (decimal a) ∙ e ∙ sym (append-nil (decimal b))) in cc
value_one (whole {a = a} h) (ratio {a = b} {b = c} k l) e =
    let r = decimal_split a b [] (47 ∷ decimal c) h k tt refl (append-nil (decimal a) ∙ e) in let f = r.1 in cc
value_one (whole {a = a} h) (bounds {a = b} {b = c} k l) e =
    let r = decimal_split a b [] (32 ∷ decimal c) h k tt refl (append-nil (decimal a) ∙ e) in let f = r.1 in cc
value_one (ratio {a = a} {b = c} h l) (whole {a = b} k) e =
    let r = decimal_split a b (47 ∷ decimal c) [] h k refl tt (e ∙ sym (append-nil (decimal b))) in let f = r.1 in cc
value_one (bounds {a = a} {b = c} h l) (whole {a = b} k) e =
    let r = decimal_split a b (32 ∷ decimal c) [] h k refl tt (e ∙ sym (append-nil (decimal b))) in let f = r.1 in cc
value_one (ratio {a = a} {b = c} h l) (ratio {a = b} {b = d} k m) e = two_same 47 1 a c b d h l k m refl e
value_one (bounds {a = a} {b = c} h l) (bounds {a = b} {b = d} k m) e = two_same 32 2 a c b d h l k m refl e
value_one (ratio {a = a} {b = c} h l) (bounds {a = b} {b = d} k m) e =
    let r = decimal_split a b (47 ∷ decimal c) (32 ∷ decimal d) h k refl refl e in let f : ◌≡◌ {A = ℕ} 47 32 = cc in absurd (omega arith)
value_one (bounds {a = a} {b = c} h l) (ratio {a = b} {b = d} k m) e =
    let r = decimal_split a b (32 ∷ decimal c) (47 ∷ decimal d) h k refl refl e in let f : ◌≡◌ {A = ℕ} 32 47 = cc in absurd (omega arith)

-- The numbers of a line, given its shape.
numbers_one : (s : Shape) (ns ms : List ℕ) → IsLine s ns → IsLine s ms → line_text s ns ≡ line_text s ms → ns ≡ ms
numbers_one S.Start ns ms h k e = h ∙ sym k
numbers_one (S.Model m) ns ms h k e = h ∙ sym k
numbers_one S.Set ns ms h k e = digits_one ns ms (cc)
numbers_one S.Value ns ms h k e = value_one h k (cc)
numbers_one S.Branch ns ms h k e = spaced_one ns ms h.1 k.1 (cc)
numbers_one S.Clash ns ms h k e = h ∙ sym k
numbers_one S.Multipliers ns ms h k e = spaced_one ns ms h k (cc)
numbers_one S.Shelf ns ms h k e = h ∙ sym k
numbers_one S.Potentials ns ms h k e = spaced_one ns ms h k (cc)
numbers_one S.Segments ns ms h k e = spaced_one ns ms h k (cc)
numbers_one S.Upper ns ms h k e = spaced_one ns ms h k (cc)
numbers_one S.Lower ns ms h k e = spaced_one ns ms h k (cc)
numbers_one S.End ns ms h k e = h ∙ sym k

-- Two lines of one text are one line.
pub one_spelling : (s t : Shape) (ns ms : List ℕ) → IsLine s ns → IsLine t ms → line_text s ns ≡ line_text t ms → (s ≡ t) × (ns ≡ ms)
one_spelling s t ns ms h k e =
    let same : s ≡ t = sym (shape_is s ns) ∙ ap shape_by_head e ∙ shape_is t ms in
    (same, at_shape s t ns ms same h k e)
  where
    at_shape : (s t : Shape) (ns ms : List ℕ) → s ≡ t → IsLine s ns → IsLine t ms → line_text s ns ≡ line_text t ms → ns ≡ ms
    at_shape s t ns ms same h k e =
        let P : Shape → Type 0 = λ x. IsLine x ms → line_text s ns ≡ line_text x ms → ns ≡ ms in
        subst P same (λ k e. numbers_one s ns ms h k e) k e

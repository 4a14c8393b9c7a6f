-- The text of a line has no line feed, so a text of lines parts at its line feeds.
use Rattle.std.proofs.Common.{◌≡◌, ℕ, Bool, true, false, ◌&&◌, List, [], ◌∷◌, ◌++◌, map, refl, sym, arith, ltb, ◌≤◌, ◌+◌}
use Rattle.std.specs.Str.Parse.{AllDigits}
use Rattle.std.specs.Fmt.{decimal}
use Rattle.std.proofs.lemmas.Fmt.{decimal_is_IsNumeral_wide}
use Rattle.std.proofs.lemmas.Str.Parse.{digit_from_value}
use Rattle.std.proofs.lemmas.Bool.Decides.{nat_tests}
use Rattle.offer_model.specs.declared.products.ModelName.TheVariants.{Logit, Attract, Mixed, Chain}
use Rattle.proof_lines.specs.declared.line.Shape.{Shape}
use Rattle.proof_lines.specs.declared.line.Shape.TheVariants as S
use Rattle.proof_lines.specs.Lines.{LineData, line, most_number, spaced, digits_text, value_text, line_text, AreNumbers, IsValue, IsLine, AreLines, text_of}
use Rattle.proof_lines.specs.Lines.IsValue.{whole, ratio, bounds}
use Rattle.proof_lines.proofs.LinesDiffer.{one_spelling}

-- Each byte is above the line feed.
abbrev pub clean : List ℕ → Bool
clean [] = true
clean (b ∷ bs) = ltb 10 b && clean bs

clean-append : (xs ys : List ℕ) → clean xs ≡ true → clean ys ≡ true → clean (xs ++ ys) ≡ true
clean-append [] ys h k = k
clean-append (x ∷ xs) ys h k = and_join (ltb 10 x) (clean xs) (clean (xs ++ ys)) h (λ r. clean-append xs ys r k)
  where
    and_join : (a b c : Bool) → (a && b) ≡ true → (b ≡ true → c ≡ true) → (a && c) ≡ true
    and_join true b c h f = f h
    and_join false b c h f = cc

clean_digits : (ds : List ℕ) → AllDigits 10 ds → clean ds ≡ true
clean_digits [] h = refl
clean_digits (d ∷ ds) h =
    let r = digit_from_value d h.0 in
    let rest = clean_digits ds h.1 in
    let t : ltb 10 d ≡ true = grind (arith, nat_tests) in
    rw (t, rest) refl

clean_decimal : (n : ℕ) → n ≤ most_number → clean (decimal n) ≡ true
clean_decimal n l = clean_digits (decimal n) (decimal_is_IsNumeral_wide n (omega arith)).0.1

clean_spaced : (ns : List ℕ) → AreNumbers ns → clean (spaced ns) ≡ true
clean_spaced [] h = refl
clean_spaced (n ∷ ns) h = clean-append (decimal n) (spaced ns) (clean_decimal n h.0) (clean_spaced ns h.1)

clean_map : (ns : List ℕ) → clean (map (λ k. 48 + k) ns) ≡ true
clean_map [] = refl
clean_map (n ∷ ns) =
    let rest = clean_map ns in
    let t : ltb 10 (48 + n) ≡ true = grind (arith, nat_tests) in
    rw (t, rest) refl

clean_digits_text : (ns : List ℕ) → clean (digits_text ns) ≡ true
clean_digits_text [] = refl
clean_digits_text (n ∷ ns) = clean_map (n ∷ ns)

clean_value : {ns : List ℕ} → IsValue ns → clean (value_text ns) ≡ true
clean_value (whole {a = a} h) = clean_decimal a h
clean_value (ratio {a = a} {b = b} h k) = clean-append (decimal a) (47 ∷ decimal b) (clean_decimal a h) (clean_decimal b k)
clean_value (bounds {a = a} {b = b} h k) = clean-append (decimal a) (32 ∷ decimal b) (clean_decimal a h) (clean_decimal b k)

pub clean_line : (s : Shape) (ns : List ℕ) → IsLine s ns → clean (line_text s ns) ≡ true
clean_line S.Start ns h = refl
clean_line (S.Model Logit) ns h = refl
clean_line (S.Model Attract) ns h = refl
clean_line (S.Model Mixed) ns h = refl
clean_line (S.Model Chain) ns h = refl
clean_line S.Set ns h = clean_digits_text ns
clean_line S.Value ns h = clean_value h
clean_line S.Branch ns h = clean_spaced ns h.1
clean_line S.Clash ns h = refl
clean_line S.Multipliers ns h = clean_spaced ns h
clean_line S.Shelf ns h = refl
clean_line S.Potentials ns h = clean_spaced ns h
clean_line S.Segments ns h = clean_spaced ns h
clean_line S.Upper ns h = clean_spaced ns h
clean_line S.Lower ns h = clean_spaced ns h
clean_line S.End ns h = refl

-- Two texts part at their first line feeds.
pub feed_split : (xs ys u v : List ℕ) → clean xs ≡ true → clean ys ≡ true → xs ++ 10 ∷ u ≡ ys ++ 10 ∷ v → (xs ≡ ys) × (u ≡ v)
feed_split [] [] u v h k e = (refl, cc)
feed_split [] (y ∷ ys) u v h k e = let f : 10 ≡ y = cc in absurd (above_ten y (clean ys) k f)
  where
    above_ten : (y : ℕ) (b : Bool) → (ltb 10 y && b) ≡ true → 10 ≡ y → ⊥
    above_ten y b k f = grind (arith, nat_tests)
feed_split (x ∷ xs) [] u v h k e = let f : x ≡ 10 = cc in absurd (above_ten x (clean xs) h f)
  where
    above_ten : (y : ℕ) (b : Bool) → (ltb 10 y && b) ≡ true → y ≡ 10 → ⊥
    above_ten y b k f = grind (arith, nat_tests)
feed_split (x ∷ xs) (y ∷ ys) u v h k e = joined x y xs ys u v (cc) (feed_split xs ys u v (later (ltb 10 x) (clean xs) h) (later (ltb 10 y) (clean ys) k) (cc))
  where
    joined : (x y : ℕ) (xs ys u v : List ℕ) → x ≡ y → (xs ≡ ys) × (u ≡ v) → (x ∷ xs ≡ y ∷ ys) × (u ≡ v)
    joined x y xs ys u v h r = (cc, r.1)

    later : (a b : Bool) → (a && b) ≡ true → b ≡ true
    later true b h = h
    later false b h = cc

line_is : (l m : LineData) → l.shape ≡ m.shape → l.numbers ≡ m.numbers → l ≡ m
line_is l m e f = let r : line l.shape l.numbers ≡ line m.shape m.numbers = cc in r

-- Two lists of lines of one text are one list.
pub text_of-one : (ls ms : List LineData) → AreLines ls → AreLines ms → text_of ls ≡ text_of ms → ls ≡ ms
text_of-one [] [] a b e = refl
text_of-one [] (m ∷ ms) a b e = absurd (no_empty (line_text m.shape m.numbers) (text_of ms) (sym e))
  where
    no_empty : (xs u : List ℕ) → xs ++ 10 ∷ u ≡ [] → ⊥
    no_empty [] u e = cc
    no_empty (x ∷ xs) u e = cc
text_of-one (l ∷ ls) [] a b e = absurd (no_empty (line_text l.shape l.numbers) (text_of ls) e)
  where
    no_empty : (xs u : List ℕ) → xs ++ 10 ∷ u ≡ [] → ⊥
    no_empty [] u e = cc
    no_empty (x ∷ xs) u e = cc
text_of-one (l ∷ ls) (m ∷ ms) a b e =
    let parts = feed_split (line_text l.shape l.numbers) (line_text m.shape m.numbers) (text_of ls) (text_of ms) (clean_line l.shape l.numbers a.0) (clean_line m.shape m.numbers b.0) e in
    let same = one_spelling l.shape m.shape l.numbers m.numbers a.0 b.0 parts.0 in
    let first = line_is l m same.0 same.1 in
    let rest = text_of-one ls ms a.1 b.1 parts.1 in
    cc

-- What is read so far, and what is left.
use Rattle.std.proofs.Common.{◌≡◌, ℕ, suc, zero, Bool, true, false, List, [], ◌∷◌, ◌++◌, length, take, drop, get_or, map, refl, sym, ◌∙◌, ap, subst, arith, ◌<◌, ◌≤◌, ◌+◌, append_assoc, append-nil, length-drop, eqb}
use Rattle.std.specs.List.{AllByRecursion}
use Rattle.std.specs.Fmt.{decimal}
use Rattle.std.proofs.lemmas.List.{length-map, drop_more, drop-drop, take-append-drop}
use Rattle.proof_lines.specs.declared.line.Shape.{Shape}
use Rattle.proof_lines.specs.declared.line.Shape.TheVariants as S
use Rattle.proof_lines.specs.Lines.{most_number, spaced, line_text, IsLine, IsLineText, AreNumbers, AreDigits}
use Rattle.proof_lines.specs.Reading.{IsPastDigits, StandsFirst, Reads, shape_by_head}
use Rattle.proof_lines.proofs.NumberLemmas.{decimal_split}
use Rattle.proof_lines.proofs.SpacedLemmas.{spaced_past, letter_one}
use Rattle.proof_lines.proofs.LinesDiffer.{shape_is}
use Rattle.std.proofs.lemmas.Bool.Decides.{nat_tests}

pub AllByRecursion-push : (P : ℕ → Type 0) (xs : List ℕ) (x : ℕ) → AllByRecursion P xs → P x → AllByRecursion P (xs ++ x ∷ [])
AllByRecursion-push P [] x a h = (h, tt)
AllByRecursion-push P (y ∷ xs) x a h = (a.0, AllByRecursion-push P xs x a.1 h)

-- ---- Numbers with a space before each.

-- What is left of the text of numbers begins with a space.
pub no_space : (ms bytes : List ℕ) (at : ℕ) → at < length bytes → (get_or bytes at 0 ≡ 32 → ⊥) → spaced ms ≡ drop at bytes → ⊥
no_space [] bytes at l h e = let more = drop_more bytes at 0 l in cc
no_space (m ∷ ms) bytes at l h e =
    let more = drop_more bytes at 0 l in
    let first : 32 ≡ get_or bytes at 0 = cc in h (sym first)

after_space : (m : ℕ) (ms bytes : List ℕ) (at : ℕ) → at < length bytes → spaced (m ∷ ms) ≡ drop at bytes → decimal m ++ spaced ms ≡ drop (at + 1) bytes
after_space m ms bytes at l e = let more = drop_more bytes at 0 l in cc

-- And a number follows the space.
pub no_field : (ms bytes : List ℕ) (at : ℕ) → at < length bytes
    → ((n : ℕ) (rest : List ℕ) → n ≤ most_number → IsPastDigits rest → decimal n ++ rest ≡ drop (at + 1) bytes → ⊥)
    → AreNumbers ms → spaced ms ≡ drop at bytes → ⊥
no_field [] bytes at l none a e = let more = drop_more bytes at 0 l in cc
no_field (m ∷ ms) bytes at l none a e = none m (spaced ms) a.0 (spaced_past ms) (after_space m ms bytes at l e)

-- A number after a space.
pub record StandsAt (bytes : List ℕ) (at n len : ℕ) : Type 0 where
  pub inside : at < length bytes
  pub space : get_or bytes at 0 ≡ 32
  pub number : StandsFirst (drop (at + 1) bytes) n len

beyond : (bytes : List ℕ) (at n len : ℕ) → StandsAt bytes at n len → drop len (drop (at + 1) bytes) ≡ drop (at + (1 + len)) bytes
beyond bytes at n len s = drop-drop len (at + 1) bytes ∙ ap (λ k. drop k bytes) (omega arith)

whole_field : (bytes : List ℕ) (at n len : ℕ) → StandsAt bytes at n len → decimal n ++ drop (at + (1 + len)) bytes ≡ drop (at + 1) bytes
whole_field bytes at n len s = ap (λ t. t ++ drop (at + (1 + len)) bytes) s.number.text ∙ ap (λ t. take len (drop (at + 1) bytes) ++ t) (sym (beyond bytes at n len s)) ∙ take-append-drop len (drop (at + 1) bytes)

pub field_inside : (bytes : List ℕ) (at n len : ℕ) → StandsAt bytes at n len → at + (1 + len) ≤ length bytes
field_inside bytes at n len s = let fits = s.number.fits in let inside = s.inside in omega (arith, length-drop (at + 1) bytes)

spaced-append : (xs ys : List ℕ) → spaced (xs ++ ys) ≡ spaced xs ++ spaced ys
spaced-append [] ys = refl
spaced-append (x ∷ xs) ys = ap (λ t. 32 ∷ decimal x ++ t) (spaced-append xs ys) ∙ ap (λ t. 32 ∷ t) (sym (append_assoc (decimal x) (spaced xs) (spaced ys)))

-- One more number is read.
pub spaced_read : (bytes ns : List ℕ) (at n len : ℕ) → StandsAt bytes at n len → spaced ns ++ drop at bytes ≡ bytes
    → spaced (ns ++ n ∷ []) ++ drop (at + (1 + len)) bytes ≡ bytes
spaced_read bytes ns at n len s e =
    let more = drop_more bytes at 0 s.inside in
    let here : drop at bytes ≡ 32 ∷ decimal n ++ drop (at + (1 + len)) bytes = more ∙ ap (λ c. c ∷ drop (at + 1) bytes) s.space ∙ ap (λ t. 32 ∷ t) (sym (whole_field bytes at n len s)) in
    ap (λ t. t ++ drop (at + (1 + len)) bytes) (spaced-append ns (n ∷ []) ∙ ap (λ t. spaced ns ++ 32 ∷ t) (append-nil (decimal n)))
    ∙ append_assoc (spaced ns) (32 ∷ decimal n) (drop (at + (1 + len)) bytes) ∙ ap (λ t. spaced ns ++ t) (sym here) ∙ e

-- The numbers that write what is left.
abbrev pub Left : List ℕ → ℕ → Type 0
Left bytes at = (ms : List ℕ) × AreNumbers ms × (spaced ms ≡ drop at bytes)

left_at : (bytes : List ℕ) (at n len : ℕ) (ms : List ℕ) → StandsAt bytes at n len → AreNumbers ms → spaced ms ≡ drop at bytes → Left bytes (at + (1 + len))
left_at bytes at n len [] s a e = let more = drop_more bytes at 0 s.inside in absurd (no_list (get_or bytes at 0) (drop (at + 1) bytes) (e ∙ more))
  where
    no_list : (c : ℕ) (cs : List ℕ) → ◌≡◌ {A = List ℕ} [] (c ∷ cs) → ⊥
    no_list c cs e = cc
left_at bytes at n len (m ∷ ms) s a e =
    let past = subst IsPastDigits (beyond bytes at n len s) s.number.past in
    let parts = decimal_split m n (spaced ms) (drop (at + (1 + len)) bytes) a.0 s.number.small (spaced_past ms) past
    (after_space m ms bytes at s.inside e ∙ sym (whole_field bytes at n len s)) in
    (ms, a.1, parts.1)

pub left_more : (bytes : List ℕ) (at n len : ℕ) → StandsAt bytes at n len → Left bytes at → Left bytes (at + (1 + len))
left_more bytes at n len s l = left_at bytes at n len l.0 s l.1 l.2

-- ---- Digits.

digit_there : (ms : List ℕ) (k : ℕ) → AreDigits ms → k < length ms → get_or (map (λ d. 48 + d) ms) k 0 < 50
digit_there [] k a l = absurd (omega arith)
digit_there (m ∷ ms) zero a l = let first = a.0 in omega arith
digit_there (m ∷ ms) (suc k) a l = digit_there ms k a.1 (omega arith)

digit_low : (ms : List ℕ) (k : ℕ) → k < length ms → 48 ≤ get_or (map (λ d. 48 + d) ms) k 0
digit_low [] k l = absurd (omega arith)
digit_low (m ∷ ms) zero l = omega arith
digit_low (m ∷ ms) (suc k) l = digit_low ms k (omega arith)

-- A text of digits has no other byte.
pub no_digit : (ms bytes : List ℕ) (k : ℕ) → k < length bytes → (get_or bytes k 0 ≡ 48 → ⊥) → (get_or bytes k 0 ≡ 49 → ⊥)
    → AreDigits ms → map (λ d. 48 + d) ms ≡ bytes → ⊥
no_digit ms bytes k l zero_byte one_byte a e =
    let len : length ms ≡ length bytes = sym (length-map ms (λ d. 48 + d)) ∙ ap length e in
    let same : get_or (map (λ d. 48 + d) ms) k 0 ≡ get_or bytes k 0 = ap (λ t. get_or t k 0) e in
    let high = digit_there ms k a (omega arith) in
    let low = digit_low ms k (omega arith) in
    neither (get_or bytes k 0) zero_byte one_byte (omega arith) (omega arith)
  where
    neither : (c : ℕ) → (c ≡ 48 → ⊥) → (c ≡ 49 → ⊥) → 48 ≤ c → c < 50 → ⊥
    neither c z o l h = omega arith

-- ---- A branch has one number.

branch_by : (bytes ns : List ℕ) (b : Bool) → AreNumbers ns → 98 ∷ spaced ns ≡ bytes → eqb (length ns) 1 ≡ b → Reads (IsLine S.Branch) (line_text S.Branch) bytes b ns
branch_by bytes ns true a e t = ((grind (arith, nat_tests), a), e)
branch_by bytes ns false a e t = λ ms k f.
    let same = letter_one 98 ns ms bytes a k.1 e f in
    let len : length ns ≡ length ms = ap length same in
    let one = k.0 in
    let other : eqb 1 1 ≡ false = rw (len, one) at t in cc

pub branch_reads : (bytes ns : List ℕ) (n : ℕ) → AreNumbers ns → 98 ∷ spaced ns ≡ bytes → n ≡ length ns → Reads (IsLine S.Branch) (line_text S.Branch) bytes (eqb n 1) ns
branch_reads bytes ns n a e len = rw len (branch_by bytes ns (eqb (length ns) 1) a e refl)

-- ---- No other shape has the text.

pub no_line : (bytes : List ℕ) (shape : Shape) (ns : List ℕ) → shape ≡ shape_by_head bytes → Reads (IsLine shape) (line_text shape) bytes false ns → IsLineText bytes → ⊥
no_line bytes shape ns is none line =
    let same : line.0 ≡ shape = sym (shape_is line.0 line.1) ∙ ap shape_by_head line.3 ∙ sym is in
    let P : Shape → Type 0 = λ s. IsLine s line.1 × (line_text s line.1 ≡ bytes) in
    let k = subst P same (line.2, line.3) in
    none line.1 k.0 k.1

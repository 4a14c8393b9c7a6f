-- Numbers with a space before each.
use Rattle.std.proofs.Common.{◌≡◌, ℕ, suc, zero, List, [], ◌∷◌, ◌++◌, length, drop, refl, sym, ◌∙◌, ap, arith, ◌<◌, ◌+◌, append_assoc, length-append, Some}
use Rattle.std.specs.Prelude.{slice_get}
use Rattle.std.proofs.lemmas.List.{drop_more}
use Rattle.std.proofs.lemmas.Option.{get_or_from_slice_get}
use Rattle.std.specs.Fmt.{decimal}
use Rattle.proof_lines.specs.Lines.{spaced, AreNumbers}
use Rattle.proof_lines.specs.Reading.{IsPastDigits}
use Rattle.proof_lines.proofs.NumberLemmas.{decimal_split}

pub spaced_past : (ns : List ℕ) → IsPastDigits (spaced ns)
spaced_past [] = tt
spaced_past (n ∷ ns) = refl

pub spaced_one : (ns ms : List ℕ) → AreNumbers ns → AreNumbers ms → spaced ns ≡ spaced ms → ns ≡ ms
spaced_one [] [] a b e = refl
spaced_one [] (m ∷ ms) a b e = cc
spaced_one (n ∷ ns) [] a b e = cc
spaced_one (n ∷ ns) (m ∷ ms) a b e =
    let h : decimal n ++ spaced ns ≡ decimal m ++ spaced ms = cc in
    let parts = decimal_split n m (spaced ns) (spaced ms) a.0 b.0 (spaced_past ns) (spaced_past ms) h in
    joined n m ns ms parts.0 (spaced_one ns ms a.1 b.1 parts.1)
  where
    joined : (n m : ℕ) (ns ms : List ℕ) → n ≡ m → ns ≡ ms → n ∷ ns ≡ m ∷ ms
    joined n m ns ms h r = cc

-- ---- One number after another.

pub spaced-drop : (ns : List ℕ) (k n : ℕ) → k < length ns → slice_get ns k ≡ Some n → spaced (drop k ns) ≡ 32 ∷ decimal n ++ spaced (drop (k + 1) ns)
spaced-drop ns k n inside e =
    let more = drop_more ns k 0 inside in
    let same = get_or_from_slice_get ns k n 0 e in
    rw (more, same) refl

pub length-spaced_drop : (ns : List ℕ) (k n : ℕ) → k < length ns → slice_get ns k ≡ Some n
    → length (spaced (drop k ns)) ≡ 1 + length (decimal n) + length (spaced (drop (k + 1) ns))
length-spaced_drop ns k n inside e = ap length (spaced-drop ns k n inside e) ∙ omega (arith, length-append (decimal n) (spaced (drop (k + 1) ns)))

pub spaced-push : (xs whole : List ℕ) (ns : List ℕ) (k n : ℕ) → k < length ns → slice_get ns k ≡ Some n
    → xs ++ spaced (drop k ns) ≡ whole → ((xs ++ 32 ∷ []) ++ decimal n) ++ spaced (drop (k + 1) ns) ≡ whole
spaced-push xs whole ns k n inside e h =
    rw (append_assoc (xs ++ 32 ∷ []) (decimal n) (spaced (drop (k + 1) ns)), append_assoc xs (32 ∷ []) (decimal n ++ spaced (drop (k + 1) ns)))
    (ap (λ t. xs ++ t) (sym (spaced-drop ns k n inside e)) ∙ h)

pub spaced_drop-some : (ns : List ℕ) (k : ℕ) → k < length ns → 0 < length (spaced (drop k ns))
spaced_drop-some [] k l = absurd (omega arith)
spaced_drop-some (n ∷ ns) zero l = omega arith
spaced_drop-some (n ∷ ns) (suc k) l = spaced_drop-some ns k (omega arith)

-- ---- A letter before them.

pub letter_one : (letter : ℕ) (ns ms bytes : List ℕ) → AreNumbers ns → AreNumbers ms → letter ∷ spaced ns ≡ bytes → letter ∷ spaced ms ≡ bytes → ns ≡ ms
letter_one letter ns ms bytes a b e f = spaced_one ns ms a b (tails letter (spaced ns) (spaced ms) (e ∙ sym f))
  where
    tails : (c : ℕ) (xs ys : List ℕ) → c ∷ xs ≡ c ∷ ys → xs ≡ ys
    tails c xs ys e = cc

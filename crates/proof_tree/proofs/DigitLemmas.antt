-- Digits that a loop writes item by item.
use Rattle.std.proofs.Common.{◌≡◌, ℕ, suc, zero, Bool, List, [], ◌∷◌, ◌++◌, length, take, get_or, set, Some, refl, sym, ◌∙◌, ap, arith, ◌<◌, ◌+◌}
use Rattle.std.specs.Prelude.{slice_get, nat_eq}
use Rattle.std.proofs.lemmas.Option.{slice_get_within, get_or_from_slice_get}
use Rattle.std.proofs.lemmas.List.{take_more, take_more_set, map-append}
use Rattle.proof_lines.specs.Lines.{AreDigits}
use Rattle.proof_lines.specs.Acceptance.{digit_of, digits_of}

digit_back : (d : ℕ) → d < 2 → digit_of (nat_eq d 1) ≡ d
digit_back zero l = refl
digit_back (suc zero) l = refl
digit_back (suc (suc d)) l = absurd (omega arith)

digit_small : (ds : List ℕ) (i : ℕ) → i < length ds → AreDigits ds → get_or ds i 0 < 2
digit_small [] i l a = absurd (omega arith)
digit_small (d ∷ ds) zero l a = a.0
digit_small (d ∷ ds) (suc i) l a = digit_small ds i (omega arith) a.1

-- One more digit is written.
pub written_more : (x new : List Bool) (ds : List ℕ) (i d : ℕ) → length x ≡ length ds → AreDigits ds → slice_get ds i ≡ Some d → new ≡ set x i (nat_eq d 1)
    → digits_of (take i x) ≡ take i ds → digits_of (take (i + 1) new) ≡ take (i + 1) ds
written_more x new ds i d each a got is was =
    let inside = slice_get_within ds i d got in
    let here = get_or_from_slice_get ds i d 0 got in
    let small = digit_small ds i inside a in
    let low : d < 2 = omega arith in
    ap (λ z. digits_of (take (i + 1) z)) is ∙ ap digits_of (take_more_set x i (nat_eq d 1) (omega arith)) ∙ map-append digit_of (take i x) (nat_eq d 1 ∷ [])
    ∙ ap (λ z. z ++ digit_of (nat_eq d 1) ∷ []) was ∙ ap (λ z. take i ds ++ z ∷ []) (digit_back d low ∙ sym here) ∙ sym (take_more ds i 0 inside)

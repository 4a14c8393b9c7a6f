-- Weights at a revenue are its prices, as one equation.
use Rattle.std.proofs.Common.{◌≡◌, ℕ, zero, suc, ◌+◌, ◌*◌, ◌<◌, ◌≤◌, [], length, refl, arith, ◌∙◌, inl, inr}
use Rattle.std.specs.Prelude.{pos, ◌-ℤ◌, ◌⊎◌}
use Rattle.std.proofs.lemmas.Int.{ints}
use Rattle.std.proofs.lemmas.List.{get_or_past}
use Rattle.std.proofs.lemmas.List.Elements.{All-get_or}
use mathlib.Core.Path.{fun_ext}
use lib.IntN.{ℤ}
use Rattle.offer_model.specs.Problems.{SegmentData, ProblemData, product_count, first_segment, margin_of, attraction_of, shadow_of}
use Rattle.offer_model.specs.Prices.{Prices, prices_at}
use Rattle.offer_model.specs.Validity.{IsProblem, IsSegment}
use Rattle.linear_weights.specs.Weights.{WeightsData, weight_at, AreAt}

-- What stands past the end of the segments.
abbrev nothing : SegmentData
nothing = record { size = 0; none = 0; attract = []; shadow = [] }

order : (a b : ℕ) → (a < b) ⊎ (b ≤ a)
order a zero = inr (omega arith)
order zero (suc b) = inl (omega arith)
order (suc a) (suc b) = next (order a b)
  where
    next : ((a < b) ⊎ (b ≤ a)) → (suc a < suc b) ⊎ (suc b ≤ suc a)
    next (inl h) = inl (omega arith)
    next (inr h) = inr (omega arith)

abbrev prices : ℤ → (ℕ → ℤ) → Prices
prices c f = record { constant = c; price = f }

same_prices : (c d : ℤ) (f g : ℕ → ℤ) → c ≡ d → f ≡ g → prices c f ≡ prices d g
same_prices c d f g e h = rw (e, h) refl

past : (num den m a s : ℕ) → a ≡ 0 → s ≡ 0 → pos 0 ≡ pos (den * (m * a) + num * s) -ℤ pos (num * a)
past num den m a s e h = rw (e, h) (omega (arith, ints))

-- A constant and a weight for each product that are those of the revenue are its prices: past the products both are 0.
pub AreAt-from_each : (p : ProblemData) (num den : ℕ) (w : WeightsData) → IsProblem p → 0 < length p.segments
    → length w.items ≡ product_count p → w.constant ≡ (prices_at p num den).constant
    → ((i : ℕ) → i < product_count p → weight_at w i ≡ (prices_at p num den).price i) → AreAt p num den w
AreAt-from_each p num den w v some long constant each =
    same_prices w.constant (prices_at p num den).constant (weight_at w) (prices_at p num den).price constant
    (fun_ext (λ i. by_place i (order i (product_count p))))
  where
    by_place : (i : ℕ) → ((i < product_count p) ⊎ (product_count p ≤ i)) → weight_at w i ≡ (prices_at p num den).price i
    by_place i (inl l) = each i l
    by_place i (inr l) =
        let long_attract : length (first_segment p).attract ≡ product_count p
        = All-get_or (λ g. length g.attract ≡ product_count p) p.segments 0 (nothing) some v.each in
        let s : IsSegment (first_segment p) = All-get_or IsSegment p.segments 0 (nothing) some v.segments in
        let no_attraction : attraction_of (first_segment p) i ≡ 0 = get_or_past (first_segment p).attract i 0 (omega arith) in
        let below = s.shadow i in
        let no_shadow : shadow_of (first_segment p) i ≡ 0 = omega arith in
        get_or_past w.items i (pos 0) (omega arith)
        ∙ past num den (margin_of p i) (attraction_of (first_segment p) i) (shadow_of (first_segment p) i) no_attraction no_shadow

-- What the two steps of stopping vectors say, multiplied out; own margins and leaving customers.
use Rattle.std.proofs.Common.{◌≡◌, ℕ, arith, suc, zero, ◌<◌, ◌≤◌, ◌*◌, ◌+◌, ◌-◌, ◌/◌, ◌⊎◌, inl, inr, max, cond, Bool, true, false, List, ◌∙◌}
use Rattle.std.specs.Prelude.{slice_index}
use Rattle.std.proofs.Math.Nat.{mul-le-mul_left}
use Rattle.offer_model.specs.Chains.{ChainData, place_count, moved, greatest_below, least_leaving_below, least_leaving}
use Rattle.offer_model.specs.ChainValidity.{IsChain}
use Rattle.offer_model.specs.Stopping.{quotient_up, own_value, value_bound}

-- A quotient that is rounded down, from below and from above.
pub down_low : (a b : ℕ) → 0 < b → b * (a / b) ≤ a
down_low a b l = omega arith

-- The other way.
pub down_high : (a b : ℕ) → 0 < b → a < b * (a / b) + b
down_high a b l = omega arith

-- A quotient that is rounded up, from above and from below.
pub up_low : (a b : ℕ) → 0 < b → a ≤ b * quotient_up a b
up_low a b l = let h = down_high (a + (b - 1)) b l in omega arith

-- The other way.
pub up_high : (a b : ℕ) → 0 < b → b * quotient_up a b ≤ a + (b - 1)
up_high a b l = down_low (a + (b - 1)) b l

-- What is known of a number that is a product's upper step, where m is moved.
pub record AtUpper (q o m u : ℕ) : Type 0 where
  pub margin : o ≤ u
  pub moves : m ≤ q * u
  pub close : (u ≡ o) ⊎ (q * u ≤ m + (q - 1))

-- It is known.
pub at_upper : (q o m u : ℕ) → 0 < q → u ≡ max o (quotient_up m q) → AtUpper q o m u
at_upper q o m u l e =
    let low = up_low m q l in
    let high = up_high m q l in
    elim (two o (quotient_up m q)) [
      | inl b ↦ (let e' = e ∙ b.0 in let w : q * quotient_up m q ≤ q * u = mul-le-mul_left q (rw e' b.1) in record { margin = omega arith; moves = omega arith; close = inl e' })
      | inr b ↦ (let e' = e ∙ b.0 in record { margin = omega (arith, b.1); moves = rw e' low; close = inr (rw e' high) })
    ]
  where
    two : (a b : ℕ) → ((max a b ≡ a) × (b ≤ a)) ⊎ ((max a b ≡ b) × (a ≤ b))
    two a b = grind arith

-- What is known of a number that is a product's lower step.
pub record AtLower (q o m h : ℕ) (b : Bool) : Type 0 where
  pub on : b ≡ true → h ≡ o
  pub moves : b ≡ false → q * h ≤ m
  pub close : b ≡ false → m ≤ q * h + (q - 1)

-- It is known.
pub at_lower : (q o m h : ℕ) (b : Bool) → 0 < q → h ≡ cond b o (m / q) → AtLower q o m h b
at_lower q o m h true l e = record { on = λ t. e; moves = λ t. cc; close = λ t. cc }
at_lower q o m h false l e = record { on = λ t. cc; moves = λ t. rw e (down_low m q l); close = λ t. let k = down_high m q l in rw e (omega arith) }

margin_le : (rs : List ℕ) (n i : ℕ) → i < n → slice_index rs i ≤ greatest_below rs n
margin_le rs zero i l = absurd (omega arith)
margin_le rs (suc n) i l = let before = margin_le rs n i in grind arith

-- No own margin is above the greatest one.
pub own_le : (c : ChainData) (i : ℕ) → i < place_count c → own_value c i ≤ value_bound c
own_le c i l = let h = margin_le c.margins (place_count c) i l in omega arith

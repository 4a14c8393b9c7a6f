-- What vectors that bracket a chain say of the customers' moves.
use Rattle.std.proofs.Common.{◌≡◌, ℕ, suc, zero, Bool, true, false, cond, List, refl, arith, ◌<◌, ◌≤◌, ◌+◌, ◌*◌, ◌^◌, ◌/◌}
use Rattle.std.specs.Prelude.{slice_index}
use Rattle.std.proofs.Math.Nat.{mul-le-mul_left, pow-zero, pow-suc}
use Rattle.offer_model.specs.Assortments.{offers, sum_below}
use Rattle.offer_model.specs.Chains.{ChainData, place_count, parts_between, moved, arriving, customer_count, greatest_margin}
use Rattle.offer_model.specs.Moves.{earned_within, walking_after, million, BringsAtMost, BringsAtLeast}
use Rattle.offer_model.specs.Stopping.{quotient_up}
use Rattle.offer_model.specs.Brackets.{BoundsAbove, BoundsBelow}

-- ---- Above.

-- A weighted sum of f, k times, is at most that of g, m times.
weighted_le : (n k m : ℕ) (w f g : ℕ → ℕ) → ((j : ℕ) → j < n → k * f j ≤ g j * m) → k * sum_below n (λ j. w j * f j) ≤ sum_below n (λ j. w j * g j) * m
weighted_le zero k m w f g h = omega arith
weighted_le (suc n) k m w f g h =
    let before = weighted_le n k m w f g (λ j l. h j (omega arith)) in
    let here : w n * (k * f n) ≤ w n * (g n * m) = mul-le-mul_left (w n) (h n (omega arith)) in
    omega arith

first_le : (b : Bool) (r u q : ℕ) → million * r ≤ u → million * cond b r 0 ≤ u * q ^ 0
first_le true r u q h = rw pow-zero (omega arith)
first_le false r u q h = omega arith

step_le : (b : Bool) (r u q t e m : ℕ) → million * r ≤ u → m ≤ q * u → million * e ≤ m * q ^ t → million * cond b (r * q ^ suc t) e ≤ u * q ^ suc t
step_le true r u q t e m margin move w = let k : q ^ suc t * (million * r) ≤ q ^ suc t * u = mul-le-mul_left (q ^ suc t) margin in omega arith
step_le false r u q t e m margin move w = let k : q ^ t * m ≤ q ^ t * (q * u) = mul-le-mul_left (q ^ t) move in rw pow-suc (omega arith)

earned_le : (c : ChainData) (y : List Bool) (us : List ℕ) → BoundsAbove c us
    → (t i : ℕ) → i < place_count c → million * earned_within c y t i ≤ slice_index us i * c.scale ^ t
earned_le c y us k zero i l = first_le (offers y i) (slice_index c.margins i) (slice_index us i) c.scale (k.margin i l)
earned_le c y us k (suc t) i l =
    let w = weighted_le (place_count c) million (c.scale ^ t) (parts_between c i) (earned_within c y t) (slice_index us) (λ j lj. earned_le c y us k t j lj) in
    step_le (offers y i) (slice_index c.margins i) (slice_index us i) c.scale t (moved c i (earned_within c y t)) (moved c i (slice_index us)) (k.margin i l) (k.moves i l) w

-- Where such a vector brings at most `up` for each customer, no assortment brings more.
pub brings_at_most : (c : ChainData) (y : List Bool) (us : List ℕ) (up : ℕ) → BoundsAbove c us
    → arriving c (slice_index us) ≤ up * customer_count c → BringsAtMost c y up
brings_at_most c y us up k total t =
    let w = weighted_le (place_count c) million (c.scale ^ t) (slice_index c.arrivals) (earned_within c y t) (slice_index us) (earned_le c y us k t) in
    let m : c.scale ^ t * arriving c (slice_index us) ≤ c.scale ^ t * (up * customer_count c) = mul-le-mul_left (c.scale ^ t) total in
    omega arith

-- ---- Below: what is earned, and what those who still walk could bring.

weighted_ge : (n k r m : ℕ) (w e v h : ℕ → ℕ) → ((j : ℕ) → j < n → h j * m ≤ k * e j + k * r * v j)
    → sum_below n (λ j. w j * h j) * m ≤ k * sum_below n (λ j. w j * e j) + k * r * sum_below n (λ j. w j * v j)
weighted_ge zero k r m w e v h a = omega arith
weighted_ge (suc n) k r m w e v h a =
    let before = weighted_ge n k r m w e v h (λ j l. a j (omega arith)) in
    let here : w n * (h n * m) ≤ w n * (k * e n + k * r * v n) = mul-le-mul_left (w n) (a n (omega arith)) in
    omega arith

first_ge : (b : Bool) (r top h q : ℕ) → h ≤ million * top → (b ≡ true → h ≤ million * r) → h * q ^ 0 ≤ million * cond b r 0 + million * top * cond b 0 1
first_ge true r top h q small set = let s = set refl in rw pow-zero (omega arith)
first_ge false r top h q small set = rw pow-zero (omega arith)

step_ge : (b : Bool) (r top h q t e v m : ℕ) → (b ≡ true → h ≤ million * r) → (b ≡ false → q * h ≤ m) → m * q ^ t ≤ million * e + million * top * v
    → h * q ^ suc t ≤ million * cond b (r * q ^ suc t) e + million * top * cond b 0 v
step_ge true r top h q t e v m set off w = let k : q ^ suc t * h ≤ q ^ suc t * (million * r) = mul-le-mul_left (q ^ suc t) (set refl) in omega arith
step_ge false r top h q t e v m set off w = let k : q ^ t * (q * h) ≤ q ^ t * m = mul-le-mul_left (q ^ t) (off refl) in rw pow-suc (omega arith)

earned_ge : (c : ChainData) (x : List Bool) (hs : List ℕ) → BoundsBelow c x hs
    → (t i : ℕ) → i < place_count c → slice_index hs i * c.scale ^ t ≤ million * earned_within c x t i + million * greatest_margin c * walking_after c x t i
earned_ge c x hs k zero i l = first_ge (offers x i) (slice_index c.margins i) (greatest_margin c) (slice_index hs i) c.scale (k.small i l) (k.margin i l)
earned_ge c x hs k (suc t) i l =
    step_ge (offers x i) (slice_index c.margins i) (greatest_margin c) (slice_index hs i) c.scale t (moved c i (earned_within c x t)) (moved c i (walking_after c x t)) (moved c i (slice_index hs))
    (k.margin i l) (k.moves i l)
    (weighted_ge (place_count c) million (greatest_margin c) (c.scale ^ t) (parts_between c i) (earned_within c x t) (walking_after c x t) (slice_index hs)
    (λ j lj. earned_ge c x hs k t j lj))

-- Where such a vector brings at least `lo` for each customer, so does the assortment.
pub brings_at_least : (c : ChainData) (x : List Bool) (hs : List ℕ) (lo : ℕ) → BoundsBelow c x hs
    → lo * customer_count c ≤ arriving c (slice_index hs) → BringsAtLeast c x lo
brings_at_least c x hs lo k total t =
    let w = weighted_ge (place_count c) million (greatest_margin c) (c.scale ^ t) (slice_index c.arrivals) (earned_within c x t) (walking_after c x t) (slice_index hs)
    (earned_ge c x hs k t) in
    let m : c.scale ^ t * (lo * customer_count c) ≤ c.scale ^ t * arriving c (slice_index hs) = mul-le-mul_left (c.scale ^ t) total in
    omega arith

-- ---- Rounding.

none_arrive : (n : ℕ) (w f : ℕ → ℕ) → sum_below n w ≡ 0 → sum_below n (λ i. w i * f i) ≡ 0
none_arrive zero w f h = refl
none_arrive (suc n) w f h =
    let before = none_arrive n w f (omega arith) in
    let here : w n ≡ 0 = omega arith in
    rw (before, here) (omega arith)

quotient_up-low : (a b : ℕ) → 0 < b → a ≤ quotient_up a b * b
quotient_up-low a b l = omega arith

-- What customers bring by a vector, divided among them and rounded up, is no less than they bring.
pub arriving-le_quotient_up : (c : ChainData) (f : ℕ → ℕ) → arriving c f ≤ quotient_up (arriving c f) (customer_count c) * customer_count c
arriving-le_quotient_up c f = at_count (customer_count c) refl
  where
    at_count : (b : ℕ) → customer_count c ≡ b → arriving c f ≤ quotient_up (arriving c f) b * b
    at_count zero e = let none = none_arrive (place_count c) (slice_index c.arrivals) f (omega arith) in omega arith
    at_count (suc b) e = quotient_up-low (arriving c f) (suc b) (omega arith)

-- And rounded down, no more.
pub quotient-le_arriving : (c : ChainData) (f : ℕ → ℕ) → arriving c f / customer_count c * customer_count c ≤ arriving c f
quotient-le_arriving c f = at_count (customer_count c)
  where
    at_count : (b : ℕ) → arriving c f / b * b ≤ arriving c f
    at_count zero = omega arith
    at_count (suc b) = omega arith

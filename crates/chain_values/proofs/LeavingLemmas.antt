-- Some customers leave at each move: what grows at no move is small.
use Rattle.std.proofs.Common.{◌≡◌, ℕ, arith, suc, zero, ◌<◌, ◌≤◌, ◌*◌, ◌+◌, ◌-◌, ◌⊎◌, inl, inr}
use Rattle.std.proofs.lemmas.Bool.{cases_lt}
use Rattle.std.proofs.Math.Nat.{mul-le-mul_left}
use Rattle.offer_model.specs.Assortments.{sum_below}
use Rattle.chain_moves.proofs.WeighedLemmas.{weighed_add, weighed_most}

-- A product where d is greatest.
abbrev Highest : ℕ → (ℕ → ℕ) → Type 0
Highest n d = (m : ℕ) × (m < n) × ((i : ℕ) → i < n → d i ≤ d m)

most_here : (n m : ℕ) (d : ℕ → ℕ) → ((i : ℕ) → i < n → d i ≤ d m) → (i : ℕ) → i < suc n → d n ≤ d m → d i ≤ d m
most_here n m d most i l last = elim (cases_lt i n) [ inl b ↦ most i b | inr b ↦ (let e : i ≡ n = omega arith in rw e last) ]

most_last : (n m : ℕ) (d : ℕ → ℕ) → ((i : ℕ) → i < n → d i ≤ d m) → (i : ℕ) → i < suc n → d m < d n → d i ≤ d n
most_last n m d most i l last = elim (cases_lt i n) [ inl b ↦ (let h = most i b in omega arith) | inr b ↦ (let e : i ≡ n = omega arith in rw e (omega arith)) ]

highest : (n : ℕ) (d : ℕ → ℕ) → Highest (suc n) d
highest zero d = (0, omega arith, λ i l. let e : i ≡ 0 = omega arith in rw e (omega arith))
highest (suc n) d =
    let before = highest n d in
    elim (cases_lt (d before.0) (d (suc n))) [
      | inl b ↦ (suc n, omega arith, λ i l. most_last (suc n) before.0 d before.2 i l b)
      | inr b ↦ (before.0, omega (arith, before.1), λ i l. most_here (suc n) before.0 d before.2 i l b)
    ]

-- The weights of each product and l make at most q: where q times d is nowhere above d moved and k, l times d is nowhere
-- above k.
pub small_by_leaving : (n q l k : ℕ) (w : ℕ → ℕ → ℕ) (d : ℕ → ℕ) → ((i : ℕ) → i < n → sum_below n (λ j. w i j * 1) + l ≤ q)
    → ((i : ℕ) → i < n → q * d i ≤ sum_below n (λ j. w i j * d j) + k) → (i : ℕ) → i < n → l * d i ≤ k
small_by_leaving zero q l k w d leave grow i inside = absurd (omega arith)
small_by_leaving (suc n) q l k w d leave grow i inside =
    let peak = highest n d in
    let m : ℕ = peak.0 in
    let room : d m * (sum_below (suc n) (λ j. w m j * 1) + l) ≤ d m * q = mul-le-mul_left (d m) (leave m peak.1) in
    let grown = grow m peak.1 in
    let moved = weighed_most (suc n) (d m) (w m) d (λ j lj. peak.2 j lj) in
    let here : l * d i ≤ l * d m = mul-le-mul_left l (peak.2 i inside) in
    omega arith

-- How far f is above g, times q.
excess : (q f g m k : ℕ) → q * f ≤ m + q * g + k → q * (f - g) ≤ m + k
excess q f g m k h = elim (cases_lt f g) [
  | inl b ↦ (let e : f - g ≡ 0 = omega arith in rw e (omega arith))
  | inr b ↦ (let e : f ≡ (f - g) + g = omega arith in let h' : q * ((f - g) + g) ≤ m + q * g + k = rw (← e) h in omega arith)
]

-- f is at most g at product i, or a move takes it no further from g than k.
abbrev pub Near : ℕ → ℕ → ℕ → (ℕ → ℕ → ℕ) → (ℕ → ℕ) → (ℕ → ℕ) → ℕ → Type 0
Near n q k w f g i = (f i ≤ g i) ⊎ (q * f i + sum_below n (λ j. w i j * g j) ≤ sum_below n (λ j. w i j * f j) + q * g i + k)

-- Where f is so near g everywhere, it is above g by little.
pub apart : (n q l k : ℕ) (w : ℕ → ℕ → ℕ) (f g : ℕ → ℕ) → ((i : ℕ) → i < n → sum_below n (λ j. w i j * 1) + l ≤ q)
    → ((i : ℕ) → i < n → Near n q k w f g i) → (i : ℕ) → i < n → l * (f i - g i) ≤ k
apart n q l k w f g leave near = small_by_leaving n q l k w (λ i. f i - g i) leave (λ i inside. elim (near i inside) [
  | inl b ↦ (let e : f i - g i ≡ 0 = omega arith in rw e (omega arith))
  | inr b ↦ (let split = weighed_add n (w i) f g (λ j. f j - g j) (λ j lj. omega arith) in
      excess q (f i) (g i) (sum_below n (λ j. w i j * (f j - g j))) k (omega arith))
])

-- And nowhere above it where k is 0.
pub below : (n q l : ℕ) (w : ℕ → ℕ → ℕ) (f g : ℕ → ℕ) → 0 < l → ((i : ℕ) → i < n → sum_below n (λ j. w i j * 1) + l ≤ q)
    → ((i : ℕ) → i < n → Near n q 0 w f g i) → (i : ℕ) → i < n → f i ≤ g i
below n q (suc l) w f g some leave near i inside = let h = apart n q (suc l) 0 w f g leave near i inside in omega arith
below n q zero w f g some leave near i inside = absurd (omega arith)

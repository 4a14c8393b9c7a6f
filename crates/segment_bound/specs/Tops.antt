-- The sum of the greatest numbers of a list. Own; a cutoff is a Lagrange multiplier of the room.
use Rattle.std.specs.Prelude.{◌≡◌, ℕ, ◌+◌, ◌-◌, ◌*◌, ◌<◌, ◌≤◌, nat_lt, cond, List, [], ◌∷◌, ◌++◌, sum_by}
use Rattle.offer_model.specs.Assortments.{sum_below}

-- The total is the sum of the greatest numbers, as many as there is room for: of those above a cutoff, all of which have room,
-- and of as many at the cutoff as the rest of the room takes.
pub record IsTopSum (numbers : List ℕ) (room total : ℕ) : Type 0 where
  pub cutoff : ℕ
  pub sum : total ≡ room * cutoff + sum_by (λ x. x - cutoff) numbers
  pub few : sum_by (λ x. cond (nat_lt cutoff x) 1 0) numbers ≤ room
  pub enough : 0 < cutoff → room ≤ sum_by (λ x. cond (nat_lt x cutoff) 0 1) numbers

-- The same of the first n numbers that a function gives.
pub record IsTopOf (n : ℕ) (f : ℕ → ℕ) (room total : ℕ) : Type 0 where
  pub cutoff : ℕ
  pub sum : total ≡ room * cutoff + sum_below n (λ i. f i - cutoff)
  pub few : sum_below n (λ i. cond (nat_lt cutoff (f i)) 1 0) ≤ room
  pub enough : 0 < cutoff → room ≤ sum_below n (λ i. cond (nat_lt (f i) cutoff) 0 1)

-- The list with the number at its end, where that is above 0.
abbrev pub with_some : List ℕ → ℕ → List ℕ
with_some numbers x = cond (nat_lt 0 x) (numbers ++ x ∷ []) numbers

-- The list holds the first n numbers that a function gives, in whatever order; zeros may be left out.
pub record Lists (n : ℕ) (f : ℕ → ℕ) (numbers : List ℕ) : Type 0 where
  pub sums : (h : ℕ → ℕ) → h 0 ≡ 0 → sum_by h numbers ≡ sum_below n (λ i. h (f i))

-- Numbers below one, two and three, and lists of one or two limits.
use Rattle.std.proofs.Common.{◌≡◌, ℕ, suc, zero, [], ◌∷◌, sym, arith, ◌<◌, subst}
use Rattle.std.specs.Prelude.{All, Any, slice_index_or}
use Rattle.offer_model.specs.declared.products.Limit.{Limit}

pub at_one : (P : ℕ → Type 0) → P 0 → (k : ℕ) → k < 1 → P k
at_one P a zero l = a
at_one P a (suc k) l = absurd (omega arith)

pub at_two : (P : ℕ → Type 0) → P 0 → P 1 → (k : ℕ) → k < 2 → P k
at_two P a b zero l = a
at_two P a b (suc zero) l = b
at_two P a b (suc (suc k)) l = absurd (omega arith)

pub at_three : (P : ℕ → Type 0) → P 0 → P 1 → P 2 → (k : ℕ) → k < 3 → P k
at_three P a b c zero l = a
at_three P a b c (suc zero) l = b
at_three P a b c (suc (suc zero)) l = c
at_three P a b c (suc (suc (suc k))) l = absurd (omega arith)

pub All-one : (P : Limit → Type 0) (x : Limit) → P x → All P (x ∷ [])
All-one P x h zero d l = h
All-one P x h (suc k) d l = absurd (omega arith)

pub All-two : (P : Limit → Type 0) (x y : Limit) → P x → P y → All P (x ∷ y ∷ [])
All-two P x y h j zero d l = h
All-two P x y h j (suc zero) d l = j
All-two P x y h j (suc (suc k)) d l = absurd (omega arith)

pub Any-one : (P : Limit → Type 0) (x : Limit) → Any P (x ∷ []) → P x
Any-one P x a = at a.0 a.1 a.2 a.3 a.4
  where
    at : (k : ℕ) (y : Limit) → k < 1 → slice_index_or (x ∷ []) k y ≡ y → P y → P x
    at zero y l e h = let e' : x ≡ y = e in subst P (sym e') h
    at (suc k) y l e h = absurd (omega arith)

-- The words of a generator, drawn one after the other.
use Rattle.std.proofs.Common.{◌≡◌, ℕ, zero, suc, ◌+◌, refl, ap, ◌∙◌, arith}
use Rattle.rand_xoshiro.specs.SplitMix64.{mix_u64}
use Rattle.trial_inputs.specs.TrialInputs.{state_at, word_at}

-- What a call of the generator answers is the first word and the state after it.
pub drawn : (s t x : ℕ) → (x, t) ≡ mix_u64 s → (x ≡ word_at s 0) × (t ≡ state_at s 1)
unfolding state_at word_at
drawn s t x e = (ap (λ (p : ℕ × ℕ). p.0) e, ap (λ (p : ℕ × ℕ). p.1) e)

-- No word is drawn yet.
pub state_at-none : (s : ℕ) → state_at s 0 ≡ s
unfolding state_at
state_at-none s = refl

-- States are drawn on from.
pub state_at-later : (s a b : ℕ) → state_at (state_at s a) b ≡ state_at s (a + b)
unfolding state_at
state_at-later s a zero = ap (state_at s) (omega arith)
state_at-later s a (suc b) = ap (λ t. (mix_u64 t).1) (state_at-later s a b) ∙ ap (state_at s) e
  where
    e : suc (a + b) ≡ a + suc b
    e = omega arith

-- Words too.
pub word_at-later : (s a b : ℕ) → word_at (state_at s a) b ≡ word_at s (a + b)
unfolding word_at
word_at-later s a b = ap (λ t. (mix_u64 t).0) (state_at-later s a b)

-- A word drawn once i words are drawn stands at place i.
pub word_drawn : (s t x i : ℕ) → t ≡ state_at s i → x ≡ word_at t 0 → x ≡ word_at s i
word_drawn s t x i at word = word ∙ ap (λ u. word_at u 0) at ∙ word_at-later s i 0 ∙ ap (word_at s) (omega arith)

-- After n more words, i + n are drawn.
pub state_drawn : (s t u i n m : ℕ) → t ≡ state_at s i → u ≡ state_at t n → i + n ≡ m → u ≡ state_at s m
state_drawn s t u i n m at drawn sum = drawn ∙ ap (λ v. state_at v n) at ∙ state_at-later s i n ∙ ap (state_at s) sum

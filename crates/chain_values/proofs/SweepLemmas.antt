-- Sweeps in place go down to the greatest solution, over any step that keeps order.
use Rattle.std.proofs.Common.{◌≡◌, ℕ, arith, ◌<◌, ◌≤◌, ◌*◌, ◌+◌, ◌-◌, inl, inr, List, length, sym, ◌∙◌, length-set, get_or-set_same, get_or-set_other, sum, below_more}
use Rattle.std.specs.Prelude.{slice_index, slice_set}
use Rattle.std.proofs.lemmas.Bool.{cases_eq}
use Rattle.offer_model.specs.Stopping.{Solves, IsGreatest}
use Rattle.std.proofs.lemmas.List.Sums.{sum_by-set, sum_by-le}
use Rattle.std.proofs.lemmas.List.{set-get_or}
use Rattle.std.proofs.lemmas.List.Elements.{All-from_get_or}
use Rattle.chain_values.specs.Sweeps.{Rises, Falls, Swept}

-- The step keeps order.
abbrev pub Monotone : ℕ → ((ℕ → ℕ) → ℕ → ℕ) → Type 0
Monotone n step = (f g : ℕ → ℕ) → ((j : ℕ) → j < n → f j ≤ g j) → (i : ℕ) → i < n → step f i ≤ step g i

-- Where a number went down all others stayed.
set_le : (us : List ℕ) (i u j : ℕ) → i < length us → u ≤ slice_index us i → slice_index (slice_set us i u) j ≤ slice_index us j
set_le us i u j l h = elim (cases_eq j i) [
  | inl e ↦ rw (e, get_or-set_same us i u 0 l) h
  | inr e ↦ rw (get_or-set_other us i j u 0 e) (omega arith)
]

-- A product's number may become what the step makes of all of them.
pub falls_set : (n most : ℕ) (step : (ℕ → ℕ) → ℕ → ℕ) (us : List ℕ) (i : ℕ) → Monotone n step → Falls n most step us → i < n
    → Falls n most step (slice_set us i (step (slice_index us) i))
falls_set n most step us i mono falls inside = record {
  each = length-set us i u ∙ falls.each;
  small = λ j l. le_trans (lower j) (falls.small j l);
  down = λ j l. le_trans (mono (λ k. slice_index (slice_set us i u) k) (slice_index us) (λ k lk. lower k) j l) (elim (cases_eq j i) [
    | inl e ↦ rw (e, get_or-set_same us i u 0 there) (omega arith)
    | inr e ↦ rw (get_or-set_other us i j u 0 e) (falls.down j l)
  ]);
  above = λ vs s j l. elim (cases_eq j i) [
    | inl e ↦ rw (e, get_or-set_same us i u 0 there) (le_trans (s.up i inside) (mono (slice_index vs) (slice_index us) (falls.above vs s) i inside))
    | inr e ↦ rw (get_or-set_other us i j u 0 e) (falls.above vs s j l)
  ];
}
  where
    u : ℕ
    u = step (slice_index us) i

    there : i < length us
    there = omega (arith, falls.each)

    lower : (j : ℕ) → slice_index (slice_set us i u) j ≤ slice_index us j
    lower j = set_le us i u j there (falls.down i inside)

    le_trans : {a b d : ℕ} → a ≤ b → b ≤ d → a ≤ d
    le_trans e f = omega arith

    le_same : {a b : ℕ} → a ≡ b → a ≤ b
    le_same e = omega arith

-- A solution rises.
pub rises_from_solves : (n most : ℕ) (step : (ℕ → ℕ) → ℕ → ℕ) (vs : List ℕ) → Solves n most step vs → Rises n most step vs
rises_from_solves n most step vs s = record { each = s.each; small = s.small; up = λ i l. let e = s.meets i l in omega arith }

-- Where nothing falls any more, the vector is the greatest solution.
pub falls_end : (n most : ℕ) (step : (ℕ → ℕ) → ℕ → ℕ) (us : List ℕ) → Falls n most step us
    → ((i : ℕ) → i < n → step (slice_index us) i ≡ slice_index us i) → IsGreatest n most step us
falls_end n most step us falls still = record {
  solves = record { each = falls.each; small = falls.small; meets = λ i l. sym (still i l) };
  greatest = λ vs s. falls.above vs (rises_from_solves n most step vs s);
}

-- What setting one number does to the sum.
pub sum-set : (us : List ℕ) (i u : ℕ) → i < length us → sum (slice_set us i u) + slice_index us i ≡ sum us + u
sum-set us i u l = sum_by-set (λ x. x) us i u 0 l

set_same : (us : List ℕ) (i u : ℕ) → u ≡ slice_index us i → slice_set us i u ≡ us
set_same us i u e = rw e (set-get_or us i 0)

-- A sweep goes on by one product.
pub swept_more : (n most : ℕ) (step : (ℕ → ℕ) → ℕ → ℕ) (i start fallen u : ℕ) (us : List ℕ) → Monotone n step → i < n
    → u ≡ step (slice_index us) i → Swept n most step i start fallen us
    → Swept n most step (i + 1) start (fallen + (slice_index us i - u)) (slice_set us i u)
swept_more n most step i start fallen u us mono inside e s =
    let down : u ≤ slice_index us i = rw e (s.falls.down i inside) in
    let there : i < length us = omega (arith, s.falls.each) in
    let sums = sum-set us i u there in
    record {
      falls = rw e (falls_set n most step us i mono s.falls inside);
      sums = omega (arith, s.sums);
      still = λ none.
          let none' : fallen ≡ 0 = omega arith in
          let same : u ≡ slice_index us i = omega arith in
          rw (set_same us i u same) (below_more (λ k. step (slice_index us) k ≡ slice_index us k) i (s.still none') (sym e ∙ same));
    }

-- No more falls than there was at the start.
pub swept_small : (n most : ℕ) (step : (ℕ → ℕ) → ℕ → ℕ) (i start fallen : ℕ) (us : List ℕ) → Swept n most step i start fallen us → fallen ≤ start
swept_small n most step i start fallen us s = omega (arith, s.sums)

-- A sum of small numbers is small.
pub sum_small : (us : List ℕ) (most : ℕ) → ((i : ℕ) → i < length us → slice_index us i ≤ most) → sum us ≤ length us * most
sum_small us most small = sum_by-le (λ x. x) most us (All-from_get_or (λ x. x ≤ most) us 0 small)

-- All numbers may become at once what the step makes of them.
pub falls_all : (n most : ℕ) (step : (ℕ → ℕ) → ℕ → ℕ) (us ws ds : List ℕ) → Monotone n step → Falls n most step us → length ws ≡ n
    → ((i : ℕ) → i < n → slice_index ds i ≡ slice_index us i - step (slice_index us) i)
    → ((i : ℕ) → i < n → slice_index ws i ≡ slice_index us i - slice_index ds i) → Falls n most step ws
falls_all n most step us ws ds mono falls each drops fell = record {
  each = each;
  small = λ i l. let e = is i l in let h = falls.down i l in let k = falls.small i l in omega arith;
  down = λ i l. let e = is i l in let h = mono (slice_index ws) (slice_index us) lower i l in omega arith;
  above = λ vs s i l. let e = is i l in let m = s.up i l in let h = mono (slice_index vs) (slice_index us) (falls.above vs s) i l in omega arith;
}
  where
    is : (i : ℕ) → i < n → slice_index ws i ≡ step (slice_index us) i
    is i l = let d = drops i l in let f = fell i l in let h = falls.down i l in omega arith

    lower : (j : ℕ) → j < n → slice_index ws j ≤ slice_index us j
    lower j l = let e = is j l in let h = falls.down j l in omega arith

-- The worked values of chains, by computation.
use Rattle.std.proofs.Common.{◌≡◌, ℕ, zero, suc, ◌<◌, refl, arith, lit<, lit≤}
use Rattle.std.specs.Prelude.{◌≤◌, slice_index, All, AllPairs}
use Rattle.offer_model.specs.Chains.{moved}
use Rattle.offer_model.specs.WorkedChains.{two_moves, ChainsAreWorked}
use Rattle.offer_model.specs.ChainValidity.{IsChain}

-- what holds at three places holds below three
below_three : (P : ℕ → Type 0) → P 0 → P 1 → P 2 → (i : ℕ) → i < 3 → P i
below_three P a b c zero l = a
below_three P a b c (suc zero) l = b
below_three P a b c (suc (suc zero)) l = c
below_three P a b c (suc (suc (suc i))) l = absurd (omega arith)

two_ends : All (λ arc. (arc.from < 3) × (arc.to < 3)) two_moves.arcs
two_ends zero d l = (lit< tt, lit< tt)
two_ends (suc zero) d l = (lit< tt, lit< tt)
two_ends (suc (suc k)) d l = absurd (omega arith)

two_differ : AllPairs (λ a b. (a.from ≡ b.from) × (a.to ≡ b.to) → ⊥) two_moves.arcs
two_differ zero zero d l m = absurd (omega arith)
two_differ zero (suc zero) d l m = λ e. absurd (cc (e.0))
two_differ zero (suc (suc j)) d l m = absurd (omega arith)
two_differ (suc i) j d l m = absurd (omega arith)

two_moves_valid : IsChain two_moves
two_moves_valid = record {
  some = lit≤ tt;
  scale = lit≤ tt;
  away = lit≤ tt;
  few = lit≤ tt;
  margins = below_three (λ i. slice_index two_moves.margins i ≤ 1000000000) (lit≤ tt) (lit≤ tt) (lit≤ tt);
  each = refl;
  arrivals = below_three (λ i. slice_index two_moves.arrivals i ≤ 1000000000) (lit≤ tt) (lit≤ tt) (lit≤ tt);
  few_arcs = lit≤ tt;
  ends = two_ends;
  once = two_differ;
  leave = below_three (λ i. moved two_moves i (λ j. 1) < 3) (lit< tt) (lit< tt) (lit< tt);
  arrive = lit< tt;
}

-- Moves, bounds and steps of a chain.
pub chains_worked : ChainsAreWorked
chains_worked = record {
  valid = two_moves_valid;
  one_move = refl;
  leaving = refl;
  gap = refl;
  customers = refl;
  margin = refl;
  earned = refl;
  walking = refl;
  up = refl;
  down = refl;
  upper = refl;
}

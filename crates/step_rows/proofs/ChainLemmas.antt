-- The worked chains are chains.
use Rattle.std.proofs.Common.{◌≡◌, ℕ, zero, suc, ◌<◌, [], ◌∷◌, refl, arith, lit<, lit≤}
use Rattle.std.specs.Prelude.{◌≤◌, slice_index, All, AllPairs}
use Rattle.offer_model.specs.declared.arc.Arc.{Arc}
use Rattle.offer_model.specs.Chains.{ChainData, moved}
use Rattle.offer_model.specs.ChainValidity.{IsChain}
use Rattle.offer_model.specs.WorkedChains.{arc_of}

below_one : (P : ℕ → Type 0) → P 0 → (i : ℕ) → i < 1 → P i
below_one P a zero l = a
below_one P a (suc i) l = absurd (omega arith)

below_two : (P : ℕ → Type 0) → P 0 → P 1 → (i : ℕ) → i < 2 → P i
below_two P a b zero l = a
below_two P a b (suc zero) l = b
below_two P a b (suc (suc i)) l = absurd (omega arith)

below_three : (P : ℕ → Type 0) → P 0 → P 1 → P 2 → (i : ℕ) → i < 3 → P i
below_three P a b c zero l = a
below_three P a b c (suc zero) l = b
below_three P a b c (suc (suc zero)) l = c
below_three P a b c (suc (suc (suc i))) l = absurd (omega arith)

two_ends : (n : ℕ) (a b : Arc) → (a.from < n) × (a.to < n) → (b.from < n) × (b.to < n) → All (λ arc. (arc.from < n) × (arc.to < n)) (a ∷ b ∷ [])
two_ends n a b p q zero d l = p
two_ends n a b p q (suc zero) d l = q
two_ends n a b p q (suc (suc k)) d l = absurd (omega arith)

two_differ : (a b : Arc) → (a.from ≡ b.from → ⊥) → AllPairs (λ a b. (a.from ≡ b.from) × (a.to ≡ b.to) → ⊥) (a ∷ b ∷ [])
two_differ a b h zero zero d l m = absurd (omega arith)
two_differ a b h zero (suc zero) d l m = λ e. h e.0
two_differ a b h zero (suc (suc j)) d l m = absurd (omega arith)
two_differ a b h (suc i) j d l m = absurd (omega arith)

-- A logit as a chain.
abbrev pub logit_chain : ChainData
logit_chain = record { scale = 56; away = 5; margins = 10 ∷ 4 ∷ []; arrivals = 2 ∷ 3 ∷ []; arcs = arc_of 0 1 21 ∷ arc_of 1 0 16 ∷ [] }

pub logit_chain-valid : IsChain logit_chain
logit_chain-valid = record {
  some = lit≤ tt;
  scale = lit≤ tt;
  away = lit≤ tt;
  few = lit≤ tt;
  margins = below_two (λ i. slice_index logit_chain.margins i ≤ 1000000000) (lit≤ tt) (lit≤ tt);
  each = refl;
  arrivals = below_two (λ i. slice_index logit_chain.arrivals i ≤ 1000000000) (lit≤ tt) (lit≤ tt);
  few_arcs = lit≤ tt;
  ends = two_ends 2 (arc_of 0 1 21) (arc_of 1 0 16) (lit< tt, lit< tt) (lit< tt, lit< tt);
  once = two_differ (arc_of 0 1 21) (arc_of 1 0 16) (λ e. omega arith);
  leave = below_two (λ i. moved logit_chain i (λ j. 1) < 56) (lit< tt) (lit< tt);
  arrive = lit< tt;
}

-- One product without arcs.
abbrev pub lone_chain : ChainData
lone_chain = record { scale = 1; away = 0; margins = 7 ∷ []; arrivals = 1 ∷ []; arcs = [] }

no_ends : All (λ arc. (arc.from < 1) × (arc.to < 1)) lone_chain.arcs
no_ends k d l = absurd (omega arith)

none_differ : AllPairs (λ a b. (a.from ≡ b.from) × (a.to ≡ b.to) → ⊥) lone_chain.arcs
none_differ i j d l m = absurd (omega arith)

pub lone_chain-valid : IsChain lone_chain
lone_chain-valid = record {
  some = lit≤ tt;
  scale = lit≤ tt;
  away = lit≤ tt;
  few = lit≤ tt;
  margins = below_one (λ i. slice_index lone_chain.margins i ≤ 1000000000) (lit≤ tt);
  each = refl;
  arrivals = below_one (λ i. slice_index lone_chain.arrivals i ≤ 1000000000) (lit≤ tt);
  few_arcs = lit≤ tt;
  ends = no_ends;
  once = none_differ;
  leave = below_one (λ i. moved lone_chain i (λ j. 1) < 1) (lit< tt);
  arrive = lit< tt;
}

-- The second product leads nowhere.
abbrev pub dead_end : ChainData
dead_end = record { scale = 10; away = 0; margins = 6 ∷ 0 ∷ 2 ∷ []; arrivals = 1 ∷ 1 ∷ 2 ∷ []; arcs = arc_of 0 1 5 ∷ arc_of 2 0 5 ∷ [] }

pub dead_end-valid : IsChain dead_end
dead_end-valid = record {
  some = lit≤ tt;
  scale = lit≤ tt;
  away = lit≤ tt;
  few = lit≤ tt;
  margins = below_three (λ i. slice_index dead_end.margins i ≤ 1000000000) (lit≤ tt) (lit≤ tt) (lit≤ tt);
  each = refl;
  arrivals = below_three (λ i. slice_index dead_end.arrivals i ≤ 1000000000) (lit≤ tt) (lit≤ tt) (lit≤ tt);
  few_arcs = lit≤ tt;
  ends = two_ends 3 (arc_of 0 1 5) (arc_of 2 0 5) (lit< tt, lit< tt) (lit< tt, lit< tt);
  once = two_differ (arc_of 0 1 5) (arc_of 2 0 5) (λ e. omega arith);
  leave = below_three (λ i. moved dead_end i (λ j. 1) < 10) (lit< tt) (lit< tt) (lit< tt);
  arrive = lit< tt;
}

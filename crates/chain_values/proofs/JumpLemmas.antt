-- Jumps: a vector that lands is above every solution, since customers leave.
use Rattle.std.proofs.Common.{◌≡◌, ℕ, arith, suc, ◌<◌, ◌≤◌, ◌*◌, ◌+◌, ◌/◌, ◌^◌, ◌⊎◌, inl, inr, List, [], ◌∷◌, length, cond, max, true, false, Bool, sum}
use Rattle.std.specs.Prelude.{slice_index}
use Rattle.std.proofs.lemmas.Nat.{div_below}
use Rattle.std.proofs.Math.Nat.{mul-le-mul_left}
use Rattle.std.proofs.lemmas.List.Sums.{sum_by-cons}
use Rattle.offer_model.specs.Assortments.{offers}
use Rattle.offer_model.specs.Chains.{ChainData, place_count, moved, parts_between, least_leaving}
use Rattle.offer_model.specs.ChainValidity.{IsChain}
use Rattle.chain_moves.proofs.ValueLemmas.{value_bound-small}
use Rattle.chain_values.proofs.LeavingLemmas.{below}
use Rattle.chain_moves.proofs.GapLemmas.{leaves, some_leaves}
use Rattle.chain_values.proofs.StepLemmas.{down_low}
use Rattle.chain_values.specs.Sweeps.{RuleData, IsRule, FallsBy}
use Rattle.chain_values.specs.Landings.{LandsAt, Lands}
use Rattle.chain_values.proofs.NextValueLemmas.{next_small}

two_max : (a b : ℕ) → (max a b ≡ a) ⊎ (max a b ≡ b)
two_max a b = grind arith

-- No step from it goes up.
down_at : (b : Bool) (o m round q w : ℕ) → 0 < q → o ≤ w → (b ≡ true) ⊎ (m + round ≤ q * w) → cond b o (max o ((m + round) / q)) ≤ w
down_at true o m round q w some low h = low
down_at false o m round q w some low (inl t) = cc
down_at false o m round q w some low (inr h) = let under = div_below (m + round) q (w + 1) some (omega arith) in grind arith

-- What rises isn't above it, or a move takes it no further from it.
near_at : (b : Bool) (o mv mw round q v w : ℕ) → 0 < q → o ≤ w → (b ≡ true) ⊎ (mw + round ≤ q * w) → v ≤ cond b o (max o ((mv + round) / q))
    → (v ≤ w) ⊎ (q * v + mw ≤ mv + q * w + 0)
near_at true o mv mw round q v w some low h e = inl (omega arith)
near_at false o mv mw round q v w some low (inl t) e = cc
near_at false o mv mw round q v w some low (inr h) e = elim (two_max o ((mv + round) / q)) [
  | inl b ↦ inl (let e' : v ≤ o = rw b at e in omega arith)
  | inr b ↦ (let e' : v ≤ (mv + round) / q = rw b at e in
      let k = down_low (mv + round) q some in let k' : q * v ≤ q * ((mv + round) / q) = mul-le-mul_left q e' in inr (omega arith))
]

-- A vector that lands falls.
pub lands_falls : (c : ChainData) (r : RuleData) (ws : List ℕ) → IsChain c → IsRule c r → Lands c r ws → FallsBy c r ws
lands_falls c r ws valid rule lands = record {
  each = lands.each;
  small = lands.small;
  down = λ i l. elim (lands.lands i l) [
    | inl e ↦ (let h = next_small c r (slice_index ws) valid rule lands.small i l in rw e h)
    | inr h ↦ down_at (offers r.held i) (slice_index r.base i) (moved c i (slice_index ws)) r.round c.scale (slice_index ws i) valid.some h.0 h.1
  ];
  above = λ vs s. below (place_count c) c.scale (least_leaving c) (parts_between c) (slice_index vs) (slice_index ws) (some_leaves c valid) (leaves c valid)
      (λ i l. elim (lands.lands i l) [
        | inl e ↦ inl (let h = s.small i l in rw e h)
        | inr h ↦ near_at (offers r.held i) (slice_index r.base i) (moved c i (slice_index vs)) (moved c i (slice_index ws)) r.round c.scale
            (slice_index vs i) (slice_index ws i) valid.some h.0 h.1 (s.up i l)
      ]);
}

-- Lists in order have sums in order.
pub sum_pointwise : (xs ys : List ℕ) → length xs ≡ length ys → ((i : ℕ) → i < length xs → slice_index xs i ≤ slice_index ys i) → sum xs ≤ sum ys
sum_pointwise [] ys e h = omega arith
sum_pointwise (x ∷ xs) [] e h = absurd (omega arith)
sum_pointwise (x ∷ xs) (y ∷ ys) e h =
    let before = sum_pointwise xs ys (omega arith) (λ i l. h (suc i) (omega arith)) in
    let here : x ≤ y = h 0 (omega arith) in
    let a = sum_by-cons (λ z. z) x xs in
    let b = sum_by-cons (λ z. z) y ys in
    omega arith

-- The numbers of a vector that falls are small.
pub falls_small : (c : ChainData) (r : RuleData) (us : List ℕ) → IsChain c → FallsBy c r us → (j : ℕ) → j < length us → slice_index us j ≤ 10 ^ 15
falls_small c r us valid falls j l = let most = value_bound-small c valid in let h = falls.small j (omega (arith, falls.each)) in omega arith

-- And of one that is nowhere above it.
pub below_small : (c : ChainData) (r : RuleData) (us ws : List ℕ) → IsChain c → FallsBy c r us → length ws ≡ place_count c
    → ((i : ℕ) → i < length ws → slice_index ws i ≤ slice_index us i) → (j : ℕ) → j < length ws → slice_index ws j ≤ 10 ^ 15
below_small c r us ws valid falls each below j l =
    let most = value_bound-small c valid in let h = falls.small j (omega arith) in let k = below j l in omega arith

-- A vector that lands at each product lands.
pub lands_whole : (c : ChainData) (r : RuleData) (us ws : List ℕ) (n : ℕ) → IsChain c → IsRule c r → FallsBy c r us → length ws ≡ place_count c
    → ((i : ℕ) → i < length ws → slice_index ws i ≤ slice_index us i) → length ws ≤ n → ((k : ℕ) → k < n → LandsAt c r (slice_index ws) k)
    → FallsBy c r ws
lands_whole c r us ws n valid rule falls each below all lands = lands_falls c r ws valid rule (record {
  each = each;
  small = λ i l. let h = falls.small i l in let k = below i (omega arith) in omega arith;
  lands = λ i l. lands i (omega arith);
})

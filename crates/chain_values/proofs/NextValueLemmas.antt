-- The next value of a product keeps order and range.
use Rattle.std.proofs.Common.{◌≡◌, ℕ, arith, ◌<◌, ◌≤◌, ◌*◌, ◌+◌, ◌/◌, List, length, cond, max, true, false, Bool}
use Rattle.std.specs.Prelude.{slice_index}
use Rattle.std.proofs.Math.Nat.{mul-le-mul_left}
use Rattle.std.proofs.lemmas.Nat.{le-div, div_below}
use Rattle.offer_model.specs.Assortments.{offers}
use Rattle.offer_model.specs.Chains.{ChainData, place_count, moved, parts_between}
use Rattle.offer_model.specs.ChainValidity.{IsChain}
use Rattle.offer_model.specs.Stopping.{value_bound}
use Rattle.chain_moves.proofs.WeighedLemmas.{weighed_le, weighed_most}
use Rattle.chain_values.proofs.StepLemmas.{down_low}
use Rattle.chain_values.specs.Sweeps.{RuleData, IsRule, next_value, FallsBy}
use Rattle.chain_values.proofs.SweepLemmas.{Monotone}

div_le : (a b q : ℕ) → 0 < q → a ≤ b → a / q ≤ b / q
div_le a b q l h = let k = down_low a q l in le-div (a / q) b q l (omega arith)

chosen_le : (b : Bool) (o m k : ℕ) → m ≤ k → cond b o (max o m) ≤ cond b o (max o k)
chosen_le true o m k h = omega arith
chosen_le false o m k h = grind arith

-- Greater values make no smaller one.
pub next_monotone : (c : ChainData) (r : RuleData) → 0 < c.scale → Monotone (place_count c) (next_value c r)
next_monotone c r some f g h i l =
    let more = weighed_le (place_count c) (parts_between c i) f g h in
    chosen_le (offers r.held i) (slice_index r.base i) ((moved c i f + r.round) / c.scale) ((moved c i g + r.round) / c.scale)
    (div_le (moved c i f + r.round) (moved c i g + r.round) c.scale some (omega arith))

chosen_most : (b : Bool) (o m most : ℕ) → o ≤ most → m ≤ most → cond b o (max o m) ≤ most
chosen_most true o m most h k = h
chosen_most false o m most h k = grind arith

-- No next value is above the greatest margin.
pub next_small : (c : ChainData) (r : RuleData) (f : ℕ → ℕ) → IsChain c → IsRule c r → ((j : ℕ) → j < place_count c → f j ≤ value_bound c)
    → (i : ℕ) → i < place_count c → next_value c r f i ≤ value_bound c
next_small c r f valid rule small i l =
    let most = weighed_most (place_count c) (value_bound c) (parts_between c i) f small in
    let room = valid.leave i l in
    let all : value_bound c * (moved c i (λ j. 1) + 1) ≤ value_bound c * c.scale = mul-le-mul_left (value_bound c) (omega arith) in
    let under = div_below (moved c i f + r.round) c.scale (value_bound c + 1) valid.some (omega (arith, rule.round_small)) in
    chosen_most (offers r.held i) (slice_index r.base i) ((moved c i f + r.round) / c.scale) (value_bound c) (rule.base_small i l) (omega arith)

-- A vector that is the greatest margin everywhere falls.
pub falls_start : (c : ChainData) (r : RuleData) (us : List ℕ) → IsChain c → IsRule c r → length us ≡ place_count c
    → ((i : ℕ) → i < place_count c → slice_index us i ≡ value_bound c) → FallsBy c r us
falls_start c r us valid rule each is = record {
  each = each;
  small = λ i l. let e = is i l in omega arith;
  down = λ i l. let e = is i l in let h = next_small c r (slice_index us) valid rule (λ j lj. let e' = is j lj in omega arith) i l in omega arith;
  above = λ vs s i l. let e = is i l in let h = s.small i l in omega arith;
}

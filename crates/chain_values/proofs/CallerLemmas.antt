-- What callers' proofs cite: the stopping vectors of a chain bracket it, and its bounds are no more than the gap apart.
use Rattle.std.proofs.Common.{◌≡◌, ℕ, arith, ◌<◌, ◌≤◌, ◌*◌, ◌+◌, ◌-◌, ◌/◌, ◌^◌}
use Rattle.std.specs.Prelude.{slice_index}
use Rattle.std.proofs.lemmas.Nat.{le-div}
use Rattle.offer_model.specs.Chains.{ChainData, place_count, arriving, least_leaving, customer_count}
use Rattle.offer_model.specs.ChainValidity.{IsChain}
use Rattle.offer_model.specs.Moves.{gap_of}
use Rattle.offer_model.specs.Claims.{IsBracketed}
use Rattle.offer_model.specs.Brackets.{BoundsAbove, BoundsBelow}
use Rattle.offer_model.specs.Stopping.{StoppingData, IsStopping}
use Rattle.offer_model.proofs.BracketLemmas.{brings_at_most, brings_at_least, arriving-le_quotient_up, quotient-le_arriving}
use Rattle.chain_moves.proofs.WeighedLemmas.{weighed_le}
use Rattle.chain_moves.proofs.GapLemmas.{some_leaves}
use Rattle.chain_values.proofs.StepLemmas.{up_low, up_high, down_low, down_high}
use Rattle.chain_values.proofs.GapLemmas.{uppers, lowers, lower_below, vectors_apart, bounds_apart, bounds_ordered, arriving_apart}
use Rattle.chain_moves.proofs.ValueLemmas.{some_arrive, value_bound-small}

le_same : {a b : ℕ} → a ≡ b → a ≤ b
le_same e = omega arith

-- The upper vector bounds what any customer brings.
pub IsStopping-above : (c : ChainData) (s : StoppingData) → IsChain c → IsStopping c s → BoundsAbove c s.upper
IsStopping-above c s k h = record {
  each = h.upper.solves.each;
  margin = λ i l. (uppers c s k h i l).margin;
  moves = λ i l. (uppers c s k h i l).moves;
}

-- No number of it is above the greatest margin that there can be.
pub IsStopping-small : (c : ChainData) (s : StoppingData) → IsChain c → IsStopping c s → (i : ℕ) → i < place_count c → slice_index s.upper i ≤ 10 ^ 15
IsStopping-small c s k h i l = let small = h.upper.solves.small i l in let most = value_bound-small c k in omega arith

-- The lower vector bounds what customers of the set bring.
pub IsStopping-below : (c : ChainData) (s : StoppingData) → IsChain c → IsStopping c s → BoundsBelow c s.set s.lower
IsStopping-below c s k h = record {
  each = h.lower.solves.each;
  small = h.lower.solves.small;
  margin = λ i l t. le_same ((lowers c s k h i l).on t);
  moves = λ i l t. (lowers c s k h i l).moves t;
}

-- The lower bound is no greater than the upper one.
pub IsStopping-ordered : (c : ChainData) (s : StoppingData) → IsChain c → IsStopping c s → s.lo ≤ s.up
IsStopping-ordered c s k h =
    let n : ℕ = customer_count c in
    let au : ℕ = arriving c (slice_index s.upper) in
    let ah : ℕ = arriving c (slice_index s.lower) in
    let up = IsStopping-above c s k h in
    let low = IsStopping-below c s k h in
    let ordered = weighed_le (place_count c) (slice_index c.arrivals) (slice_index s.lower) (slice_index s.upper)
    (lower_below c s.set s.upper s.lower k up.margin up.moves low.margin low.moves) in
    let up_above : au ≤ n * s.up = rw h.up (up_low au n (some_arrive c k)) in
    let lo_below : n * s.lo ≤ ah = rw h.lo (down_low ah n (some_arrive c k)) in
    bounds_ordered n au ah s.up s.lo (some_arrive c k) ordered up_above lo_below

-- They are no more than the gap apart.
pub IsStopping-near : (c : ChainData) (s : StoppingData) → IsChain c → IsStopping c s → s.up ≤ s.lo + gap_of c
IsStopping-near c s k h =
    let n : ℕ = customer_count c in
    let au : ℕ = arriving c (slice_index s.upper) in
    let ah : ℕ = arriving c (slice_index s.lower) in
    let g : ℕ = 2 * (c.scale - 1) / least_leaving c in
    let near = arriving_apart c (slice_index s.upper) (slice_index s.lower) g
    (λ i l. let far = vectors_apart c s k h i l in
    le-div (slice_index s.upper i - slice_index s.lower i) (2 * (c.scale - 1)) (least_leaving c) (some_leaves c k) (omega arith)) in
    let up_near : n * s.up ≤ au + (n - 1) = rw h.up (up_high au n (some_arrive c k)) in
    let lo_near : ah < n * s.lo + n = rw h.lo (down_high ah n (some_arrive c k)) in
    bounds_apart n au ah s.up s.lo g (some_arrive c k) near up_near lo_near

-- What the stopping vectors claim holds.
pub IsStopping-bracketed : (c : ChainData) (s : StoppingData) → IsChain c → IsStopping c s → IsBracketed c s.set s.lo s.up
IsStopping-bracketed c s k h = record {
  reached = brings_at_least c s.set s.lower s.lo (IsStopping-below c s k h) (rw h.lo (quotient-le_arriving c (slice_index s.lower)));
  none_exceeds = λ y. brings_at_most c y s.upper s.up (IsStopping-above c s k h) (rw h.up (arriving-le_quotient_up c (slice_index s.upper)));
  ordered = IsStopping-ordered c s k h;
  near = IsStopping-near c s k h;
}

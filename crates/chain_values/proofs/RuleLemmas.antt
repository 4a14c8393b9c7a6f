-- The rules of the two vectors, and where the lower one starts.
use Rattle.std.proofs.Common.{◌≡◌, ℕ, arith, ◌<◌, ◌≤◌, ◌*◌, ◌+◌, ◌-◌, ◌/◌, ◌^◌, refl, List, length, cond, max, true, false, Bool, sym, ◌∙◌, eqb, take, drop, ◌++◌, replicate}
use Rattle.std.proofs.lemmas.List.{length-replicate, get_or-replicate}
use Rattle.std.proofs.Math.Seq.{take-append_seam}
use Rattle.std.specs.Prelude.{slice_index}
use Rattle.std.proofs.lemmas.Bool.Decides.{nat_tests}
use Rattle.std.proofs.lemmas.Nat.{div_below}
use Rattle.std.proofs.Math.Nat.{mul-le-mul_left}
use Rattle.offer_model.specs.Assortments.{offers}
use Rattle.offer_model.specs.Chains.{ChainData, place_count, moved, arriving, customer_count}
use Rattle.offer_model.specs.ChainValidity.{IsChain}
use Rattle.offer_model.specs.Stopping.{Solves, IsGreatest, value_bound, own_value, upper_step, lower_step, quotient_up}
use Rattle.chain_values.proofs.StepLemmas.{own_le, down_low, AtUpper, at_upper}
use Rattle.chain_values.proofs.GapLemmas.{lower_below}
use Rattle.chain_moves.proofs.ValueLemmas.{value_bound-small}
use Rattle.offer_model.proofs.SumLemmas.{sum_le}
use Rattle.chain_moves.proofs.WeighedLemmas.{weighed_most}
use Rattle.chain_values.specs.Sweeps.{RuleData, IsRule, next_value, Rises, FallsBy, IsGreatestBy, IsUpperRule, IsLowerRule, IsSet}
use Rattle.chain_moves.specs.Values.{AreOwn}
use Rattle.chain_values.proofs.NextValueLemmas.{falls_start}

-- One step in place of another that gives the same.
solves_same : (n most : ℕ) (step other : (ℕ → ℕ) → ℕ → ℕ) (us : List ℕ) → ((f : ℕ → ℕ) (i : ℕ) → i < n → step f i ≡ other f i)
    → Solves n most step us → Solves n most other us
solves_same n most step other us same s = record { each = s.each; small = s.small; meets = λ i l. s.meets i l ∙ same (slice_index us) i l }

-- The greatest solution stays the same.
pub greatest_same : (n most : ℕ) (step other : (ℕ → ℕ) → ℕ → ℕ) (us : List ℕ) → ((f : ℕ → ℕ) (i : ℕ) → i < n → step f i ≡ other f i)
    → IsGreatest n most step us → IsGreatest n most other us
greatest_same n most step other us same g = record {
  solves = solves_same n most step other us same g.solves;
  greatest = λ vs s i l. g.greatest vs (solves_same n most other step vs (λ f k lk. sym (same f k lk)) s) i l;
}

upper_same : (c : ChainData) (r : RuleData) → IsUpperRule c r → (f : ℕ → ℕ) (i : ℕ) → i < place_count c → next_value c r f i ≡ upper_step c f i
upper_same c r is f i l = rw (is.held i l, is.base i l, is.round) refl

lower_at : (b : Bool) (base o m q : ℕ) → base ≡ cond b o 0 → cond b base (max base ((m + 0) / q)) ≡ cond b o (m / q)
lower_at true base o m q e = e
lower_at false base o m q e = let none : m + 0 ≡ m = omega arith in rw (e, none) (zero_max (m / q))
  where
    zero_max : (a : ℕ) → max 0 a ≡ a
    zero_max a = grind arith

lower_same : (c : ChainData) (x : List Bool) (r : RuleData) → IsLowerRule c x r → (f : ℕ → ℕ) (i : ℕ) → i < place_count c → next_value c r f i ≡ lower_step c x f i
lower_same c x r is f i l = rw (is.held, is.round) (lower_at (offers x i) (slice_index r.base i) (own_value c i) (moved c i f) c.scale (is.base i l))

-- The greatest solution by the upper rule is the upper vector.
pub upper_greatest : (c : ChainData) (r : RuleData) (us : List ℕ) → IsUpperRule c r → IsGreatestBy c r us → IsGreatest (place_count c) (value_bound c) (upper_step c) us
upper_greatest c r us is = greatest_same (place_count c) (value_bound c) (next_value c r) (upper_step c) us (upper_same c r is)

-- And by the lower rule the lower one.
pub lower_greatest : (c : ChainData) (x : List Bool) (r : RuleData) (us : List ℕ) → IsLowerRule c x r → IsGreatestBy c r us
    → IsGreatest (place_count c) (value_bound c) (lower_step c x) us
lower_greatest c x r us is = greatest_same (place_count c) (value_bound c) (next_value c r) (lower_step c x) us (lower_same c x r is)

-- The lower vector is nowhere above the upper one, so sweeps for it may start there.
pub falls_from_upper : (c : ChainData) (x : List Bool) (r : RuleData) (us : List ℕ) → IsChain c → IsLowerRule c x r
    → IsGreatest (place_count c) (value_bound c) (upper_step c) us → ((i : ℕ) → i < place_count c → offers x i ≡ eqb (slice_index us i) (own_value c i)) → FallsBy c r us
falls_from_upper c x r us valid is g set = record {
  each = g.solves.each;
  small = g.solves.small;
  down = λ i l. rw (lower_same c x r is (slice_index us) i l)
      (below (offers x i) (slice_index us i) (own_value c i) (moved c i (slice_index us)) c.scale valid.some (set i l) (upper i l).moves);
  above = λ vs s. lower_below c x us vs valid (λ i l. (upper i l).margin) (λ i l. (upper i l).moves)
      (λ i l t. on (offers x i) (own_value c i) (moved c i (slice_index vs) / c.scale) (slice_index vs i) t (rises vs s i l))
      (λ i l t. off (offers x i) (own_value c i) (moved c i (slice_index vs)) c.scale (slice_index vs i) valid.some t (rises vs s i l));
}
  where
    upper : (i : ℕ) → i < place_count c → AtUpper c.scale (own_value c i) (moved c i (slice_index us)) (slice_index us i)
    upper i l = at_upper c.scale (own_value c i) (moved c i (slice_index us)) (slice_index us i) valid.some (g.solves.meets i l)

    le_same : {a b : ℕ} → a ≡ b → a ≤ b
    le_same e = omega arith

    rises : (vs : List ℕ) → Rises (place_count c) (value_bound c) (next_value c r) vs → (i : ℕ) → i < place_count c → slice_index vs i ≤ lower_step c x (slice_index vs) i
    rises vs s i l = let e = lower_same c x r is (slice_index vs) i l in rw e at (s.up i l)

    on : (b : Bool) (o m v : ℕ) → b ≡ true → v ≤ cond b o m → v ≤ o
    on true o m v t h = h
    on false o m v t h = cc

    off : (b : Bool) (o m q v : ℕ) → 0 < q → b ≡ false → v ≤ cond b o (m / q) → q * v ≤ m
    off true o m q v some t h = cc
    off false o m q v some t h = let k = down_low m q some in let k' : q * v ≤ q * (m / q) = mul-le-mul_left q h in omega arith

    below : (b : Bool) (u o m q : ℕ) → 0 < q → b ≡ eqb u o → m ≤ q * u → cond b o (m / q) ≤ u
    below true u o m q some e h = let same : u ≡ o = grind (arith, nat_tests) in omega arith
    below false u o m q some e h = let under = div_below m q (u + 1) some (omega arith) in omega arith

-- The upper rule is one for the chain.
pub upper_fits : (c : ChainData) (r : RuleData) → IsChain c → length r.base ≡ place_count c → length r.held ≡ place_count c → r.most ≡ value_bound c → IsUpperRule c r → IsRule c r
upper_fits c r valid base held most is = record {
  most = most;
  base_each = base;
  held_each = held;
  base_small = λ i l. rw (is.base i l) (own_le c i l);
  round_small = let some = valid.some in let e = is.round in omega arith;
}

-- And so is the lower one.
pub lower_fits : (c : ChainData) (x : List Bool) (r : RuleData) → IsChain c → length r.base ≡ place_count c → length r.held ≡ place_count c → r.most ≡ value_bound c → IsLowerRule c x r → IsRule c r
lower_fits c x r valid base held most is = record {
  most = most;
  base_each = base;
  held_each = held;
  base_small = λ i l. rw (is.base i l) (at (offers x i) (own_value c i) (value_bound c) (own_le c i l));
  round_small = let some = valid.some in let e = is.round in omega arith;
}
  where
    at : (b : Bool) (o t : ℕ) → o ≤ t → cond b o 0 ≤ t
    at true o t h = h
    at false o t h = omega arith

-- A part that was written whole.
pub written_whole : (n : ℕ) (xs ys : List ℕ) → length xs ≡ length ys → length ys ≡ n → take n (xs ++ drop (length xs) ys) ≡ xs
written_whole n xs ys e f = let g : n ≡ length xs = omega arith in rw g (take-append_seam xs (drop (length xs) ys))

-- Own margins, nothing held and the scale less 1 make the upper rule.
pub upper_is : (c : ChainData) (r : RuleData) (ms : List ℕ) → AreOwn c ms → r.base ≡ ms → r.held ≡ replicate (length ms) false → r.round ≡ c.scale - 1 → IsUpperRule c r
upper_is c r ms margins base held round = record {
  base = λ i l. rw base (margins.value i l);
  held = λ i l. let inside : i < length ms = omega (arith, margins.each) in rw (held, get_or-replicate) refl;
  round = round;
}

-- A vector filled with the greatest margin falls.
pub falls_filled : (c : ChainData) (r : RuleData) (n : ℕ) → IsChain c → IsRule c r → n ≡ place_count c → FallsBy c r (replicate n (value_bound c))
falls_filled c r n valid rule e = falls_start c r (replicate n (value_bound c)) valid rule (length-replicate n (value_bound c) ∙ e)
    (λ i l. let inside : i < n = omega arith in rw get_or-replicate refl)

-- What stands where the own margin is reached is the set.
pub set_is : (c : ChainData) (us ms : List ℕ) (x : List Bool) → AreOwn c ms → length x ≡ length ms
    → ((i : ℕ) → i < length ms → offers x i ≡ eqb (slice_index us i) (slice_index ms i)) → IsSet c us x
set_is c us ms x margins each set = record {
  each = each ∙ margins.each;
  set = λ i l. let inside : i < length ms = omega (arith, margins.each) in let e = margins.value i l in rw (← e) (set i inside);
}

-- A quotient that is rounded up is small.
pub quotient_up_small : (sum all : ℕ) → 0 < all → sum ≤ all * 10 ^ 15 → quotient_up sum all ≤ 10 ^ 15
quotient_up_small sum all some h = let k = div_below (sum + (all - 1)) all (10 ^ 15 + 1) some (omega arith) in omega arith

-- And rounded down.
pub quotient_small : (sum all : ℕ) → 0 < all → sum ≤ all * 10 ^ 15 → sum / all ≤ 10 ^ 15
quotient_small sum all some h = let k = div_below sum all (10 ^ 15 + 1) some (omega arith) in omega arith

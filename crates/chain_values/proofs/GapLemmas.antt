-- How far the two vectors of a chain, and the two bounds, lie apart.
use Rattle.std.proofs.Common.{◌≡◌, ◌≢◌, ℕ, arith, suc, zero, ◌<◌, ◌≤◌, ◌*◌, ◌+◌, ◌-◌, ◌^◌, ◌⊎◌, inl, inr, refl, Bool, true, false, eqb, List}
use Rattle.std.specs.Prelude.{slice_index}
use Rattle.std.proofs.lemmas.Bool.{cases_lt}
use Rattle.std.proofs.lemmas.Bool.Decides.{nat_tests}
use Rattle.std.proofs.Math.Nat.{mul-le-mul_left}
use Rattle.offer_model.specs.Assortments.{offers, sum_below}
use Rattle.offer_model.specs.Chains.{ChainData, place_count, parts_between, moved, arriving, greatest_below, least_leaving, customer_count}
use Rattle.offer_model.specs.ChainValidity.{IsChain}
use Rattle.offer_model.specs.Stopping.{own_value, value_bound, StoppingData, IsStopping}
use Rattle.offer_model.proofs.SumLemmas.{sum_le}
use Rattle.chain_moves.proofs.WeighedLemmas.{weighed_add, weighed_most}
use Rattle.chain_values.proofs.LeavingLemmas.{Near, apart, below}
use Rattle.chain_values.proofs.StepLemmas.{AtUpper, at_upper, AtLower, at_lower}
use Rattle.chain_moves.proofs.GapLemmas.{leaves, some_leaves}

-- What bounds a chain below is nowhere above what bounds it above.
pub lower_below : (c : ChainData) (x : List Bool) (us hs : List ℕ) → IsChain c
    → ((i : ℕ) → i < place_count c → own_value c i ≤ slice_index us i)
    → ((i : ℕ) → i < place_count c → moved c i (slice_index us) ≤ c.scale * slice_index us i)
    → ((i : ℕ) → i < place_count c → offers x i ≡ true → slice_index hs i ≤ own_value c i)
    → ((i : ℕ) → i < place_count c → offers x i ≡ false → c.scale * slice_index hs i ≤ moved c i (slice_index hs))
    → (i : ℕ) → i < place_count c → slice_index hs i ≤ slice_index us i
lower_below c x us hs k margin moves set off =
    below (place_count c) c.scale (least_leaving c) (parts_between c) (slice_index hs) (slice_index us) (some_leaves c k) (leaves c k)
    (λ i l. at i (offers x i) (margin i l) (moves i l) (set i l) (off i l))
  where
    at : (i : ℕ) (b : Bool) → own_value c i ≤ slice_index us i → moved c i (slice_index us) ≤ c.scale * slice_index us i
        → (b ≡ true → slice_index hs i ≤ own_value c i) → (b ≡ false → c.scale * slice_index hs i ≤ moved c i (slice_index hs))
        → Near (place_count c) c.scale 0 (parts_between c) (slice_index hs) (slice_index us) i
    at i true m v s o = inl (let h = s refl in omega arith)
    at i false m v s o = inr (let h = o refl in omega arith)

-- The upper vector, product by product.
pub uppers : (c : ChainData) (a : StoppingData) → IsChain c → IsStopping c a → (i : ℕ) → i < place_count c
    → AtUpper c.scale (own_value c i) (moved c i (slice_index a.upper)) (slice_index a.upper i)
uppers c a k s i l = at_upper c.scale (own_value c i) (moved c i (slice_index a.upper)) (slice_index a.upper i) k.some (s.upper.solves.meets i l)

-- The lower vector, product by product.
pub lowers : (c : ChainData) (a : StoppingData) → IsChain c → IsStopping c a → (i : ℕ) → i < place_count c
    → AtLower c.scale (own_value c i) (moved c i (slice_index a.lower)) (slice_index a.lower i) (offers a.set i)
lowers c a k s i l = at_lower c.scale (own_value c i) (moved c i (slice_index a.lower)) (slice_index a.lower i) (offers a.set i) k.some (s.lower.solves.meets i l)

-- On the set both vectors are equal; off it two roundings lie between them.
near_at : (q o mu u mh h : ℕ) (b : Bool) → b ≡ eqb u o → AtUpper q o mu u → AtLower q o mh h b
    → (u ≤ h) ⊎ (q * u + mh ≤ mu + q * h + 2 * (q - 1))
near_at q o mu u mh h true e up low = inl (let on = low.on refl in let same : u ≡ o = grind (arith, nat_tests) in omega arith)
near_at q o mu u mh h false e up low =
    let off = low.close refl in
    let other : u ≢ o = grind (arith, nat_tests) in
    elim up.close [ inl s ↦ absurd (other s) | inr s ↦ inr (omega arith) ]

-- So they are no more apart than two roundings over the least part that leaves.
pub vectors_apart : (c : ChainData) (a : StoppingData) → IsChain c → IsStopping c a → (i : ℕ) → i < place_count c
    → least_leaving c * (slice_index a.upper i - slice_index a.lower i) ≤ 2 * (c.scale - 1)
vectors_apart c a k s =
    apart (place_count c) c.scale (least_leaving c) (2 * (c.scale - 1)) (parts_between c) (slice_index a.upper) (slice_index a.lower) (leaves c k)
    (λ i l. near_at c.scale (own_value c i) (moved c i (slice_index a.upper)) (slice_index a.upper i) (moved c i (slice_index a.lower)) (slice_index a.lower i) (offers a.set i)
    (s.set i l) (uppers c a k s i l) (lowers c a k s i l))

-- Weighed by the arrivals, whole bounds are one more apart.
pub bounds_apart : (l au ah up lo g : ℕ) → 0 < l → au ≤ ah + g * l → l * up ≤ au + (l - 1) → ah < l * lo + l → up ≤ lo + (g + 1)
bounds_apart l au ah up lo g some total high low = elim (cases_lt up (lo + g + 2)) [
  | inl b ↦ omega arith
  | inr b ↦ (let k : l * (lo + g + 2) ≤ l * up = mul-le-mul_left l b in absurd (omega arith))
]

-- And in order.
pub bounds_ordered : (l au ah up lo : ℕ) → 0 < l → ah ≤ au → au ≤ l * up → l * lo ≤ ah → lo ≤ up
bounds_ordered l au ah up lo some total high low = elim (cases_lt up lo) [
  | inl b ↦ (let k : l * (up + 1) ≤ l * lo = mul-le-mul_left l (omega arith) in absurd (omega arith))
  | inr b ↦ b
]

-- Where f is nowhere above h by more than g, arriving customers bring at most g more by it.
pub arriving_apart : (c : ChainData) (f h : ℕ → ℕ) (g : ℕ) → ((i : ℕ) → i < place_count c → f i - h i ≤ g)
    → arriving c f ≤ arriving c h + g * customer_count c
arriving_apart c f h g near =
    let w : ℕ → ℕ = λ i. slice_index c.arrivals i in
    let split = weighed_add (place_count c) w f h (λ i. f i - h i) (λ i l. omega arith) in
    let most = weighed_most (place_count c) g w (λ i. f i - h i) near in
    let one = sum_le (place_count c) (λ i. w i * 1) w (λ i l. omega arith) in
    let all : g * sum_below (place_count c) (λ i. w i * 1) ≤ g * customer_count c = mul-le-mul_left g (omega arith) in
    omega arith

-- How a trial's weight falls, in plain numbers.
use Rattle.std.proofs.Common.{◌≡◌, ℕ, zero, suc, ◌+◌, ◌-◌, ◌*◌, ◌^◌, ◌<◌, ◌≤◌, refl, arith, sym, subst}
use Rattle.std.proofs.Math.Nat.{mul-le-mul, pow-le-pow_right, mul-le-mul_left, mul-le-mul_right, le_of_mul-le-mul_left, le_of_mul-le-mul_right}
use Rattle.offer_model.specs.Ranges.{gain_bound, weight_bound}
use Rattle.ratio_loop.specs.Trials.{most_trials}

-- Four times a product is at most the square of the sum.
four_parts : (c d : ℕ) → 4 * (c * d) ≤ (c + d) * (c + d)
four_parts zero d = omega arith
four_parts (suc c) zero = omega arith
four_parts (suc c) (suc d) = let before = four_parts c d in grind arith

-- A trial at n / a finds gain m and weight b, which weigh v there. What has gain g and weight c, and so weighs no more,
-- weighs u at the next trial, at m / b.
pub next_weighs : (a n m b v g c u : ℕ) → a * m ≡ n * b + v → a * g ≤ n * c + v → b * g ≡ m * c + u → a * u + c * v ≤ b * v
next_weighs a n m b v g c u own most next =
    let h : b * (a * g) ≤ b * (n * c + v) = mul-le-mul_left b most in
    let e : (a * m) * c ≡ (n * b + v) * c = subst (λ t. (a * m) * c ≡ t * c) own refl in
    let f : a * (b * g) ≡ a * (m * c + u) = subst (λ t. a * (b * g) ≡ a * t) next refl in
    grind arith

-- So u times c, over b, is at most a fourth of v times b, over a.
pub to_a_fourth : (a b c u v : ℕ) → 0 < v → a * u + c * v ≤ b * v → 4 * (a * u * c) ≤ b * b * v
to_a_fourth a b c u v some h =
    let cv : c * v ≤ b * v = omega arith in
    let less : c ≤ b = le_of_mul-le-mul_right cv some in
    by_difference (b - c) (omega arith)
  where
    by_difference : (d : ℕ) → b ≡ c + d → 4 * (a * u * c) ≤ b * b * v
    by_difference d e =
        let h' : a * u + c * v ≤ (c + d) * v = subst (λ t. a * u + c * v ≤ t * v) e h in
        let k : a * u ≤ d * v = grind arith in
        let l : (4 * c) * (a * u) ≤ (4 * c) * (d * v) = mul-le-mul_left (4 * c) k in
        let q : (4 * (c * d)) * v ≤ ((c + d) * (c + d)) * v = mul-le-mul_right v (four_parts c d) in
        subst (λ t. 4 * (a * u * c) ≤ t * t * v) (sym e) (grind arith)

-- What is below a bound at one trial is below a fourth of it at the next; e is the fourths so far.
pub falls : (e a b c u v room : ℕ) → 0 < a → 4 * (a * u * c) ≤ b * b * v → e * (v * b) ≤ a * room → (4 * e) * (u * c) ≤ b * room
falls e a b c u v room some four before =
    let h : e * (4 * (a * u * c)) ≤ e * (b * b * v) = mul-le-mul_left e four in
    let k : b * (e * (v * b)) ≤ b * (a * room) = mul-le-mul_left b before in
    let l : a * ((4 * e) * (u * c)) ≤ a * (b * room) = grind arith in
    le_of_mul-le-mul_left l some

-- While a trial's assortment still weighs anything, there are trials left.
pub few : (k a v b : ℕ) → 0 < v → 0 < b → a < weight_bound → 4 ^ k * (v * b) ≤ a * (gain_bound * weight_bound) → k + 1 < most_trials
few k a v b some_v some_b small h = by_order (most_trials - 1 - k) refl
  where
    never : most_trials - 1 ≤ k → ⊥
    never l =
        let pow : 4 ^ (most_trials - 1) ≤ 4 ^ k = pow-le-pow_right (omega arith) l in
        let one : 1 * 1 ≤ v * b = mul-le-mul some_v some_b in
        let up : 4 ^ k * 1 ≤ 4 ^ k * (v * b) = mul-le-mul_left (4 ^ k) one in
        omega arith

    by_order : (d : ℕ) → d ≡ most_trials - 1 - k → k + 1 < most_trials
    by_order zero e = absurd (never (omega arith))
    by_order (suc d) e = omega arith

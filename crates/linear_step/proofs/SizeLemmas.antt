-- How large prices and constants at a revenue get.
use Rattle.std.proofs.Common.{ℕ, ◌+◌, ◌*◌, ◌<◌, ◌≤◌, ◌^◌, arith}
use Rattle.std.specs.Prelude.{pos, ◌-ℤ◌}
use Rattle.std.proofs.lemmas.Int.{ints}
use Rattle.std.proofs.Math.Nat.{mul-le-mul_left}
use Rattle.linear_weights.specs.Weights.{price_bound, IsWithin}

-- A price, of its gain, its shadow and its attraction.
pub IsWithin-price : (num den gain attraction shadow : ℕ) → num < 2 ^ 68 → den < 2 ^ 38 → gain ≤ 10 ^ 18
    → attraction ≤ 10 ^ 9 → shadow ≤ attraction
    → IsWithin price_bound (pos (den * gain + num * shadow) -ℤ pos (num * attraction))
IsWithin-price num den gain attraction shadow n d hg ha hs =
    let a : den * gain ≤ den * 10 ^ 18 = mul-le-mul_left den hg in
    let b : num * shadow ≤ num * attraction = mul-le-mul_left num hs in
    let e : num * attraction ≤ num * 10 ^ 9 = mul-le-mul_left num ha in
    (omega (arith, ints), omega (arith, ints))

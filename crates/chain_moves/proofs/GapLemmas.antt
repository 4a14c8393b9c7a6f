-- The least leaving weight, product by product.
use Rattle.std.proofs.Common.{ℕ, arith, suc, zero, ◌<◌, ◌≤◌, ◌+◌, ◌-◌}
use Rattle.offer_model.specs.Chains.{ChainData, place_count, moved, least_leaving_below, least_leaving}
use Rattle.offer_model.specs.ChainValidity.{IsChain}

leaving_le : (c : ChainData) (n i : ℕ) → i < n → least_leaving_below c n ≤ c.scale - moved c i (λ j. 1)
leaving_le c zero i l = absurd (omega arith)
leaving_le c (suc n) i l = let before = leaving_le c n i in grind arith

leaving_some : (c : ChainData) (n : ℕ) → 0 < c.scale → ((i : ℕ) → i < n → moved c i (λ j. 1) < c.scale) → 0 < least_leaving_below c n
leaving_some c zero s l = s
leaving_some c (suc n) s l =
    let before = leaving_some c n s (λ i h. l i (omega arith)) in
    let here = l n (omega arith) in omega arith

-- At each product as many leave, or more.
pub leaves : (c : ChainData) → IsChain c → (i : ℕ) → i < place_count c → moved c i (λ j. 1) + least_leaving c ≤ c.scale
leaves c k i l = let h = leaving_le c (place_count c) i l in let here = k.leave i l in omega arith

-- Some leave.
pub some_leaves : (c : ChainData) → IsChain c → 0 < least_leaving c
some_leaves c k = leaving_some c (place_count c) k.some k.leave

-- How great values and bounds can be.
use Rattle.std.proofs.Common.{ℕ, arith, suc, zero, ◌<◌, ◌≤◌, ◌*◌, ◌^◌, List}
use Rattle.std.specs.Prelude.{slice_index}
use Rattle.offer_model.specs.Chains.{ChainData, place_count, arriving, greatest_below, customer_count}
use Rattle.offer_model.specs.ChainValidity.{IsChain}
use Rattle.offer_model.specs.Stopping.{value_bound}
use Rattle.offer_model.proofs.SumLemmas.{sum_le}
use Rattle.chain_moves.proofs.WeighedLemmas.{weighed_most}

top_below_small : (rs : List ℕ) (most n : ℕ) → ((i : ℕ) → i < n → slice_index rs i ≤ most) → greatest_below rs n ≤ most
top_below_small rs most zero h = omega arith
top_below_small rs most (suc n) h =
    let before = top_below_small rs most n (λ i l. h i (omega arith)) in
    let here = h n (omega arith) in omega arith

-- Some customers arrive.
pub some_arrive : (c : ChainData) → IsChain c → 0 < customer_count c
some_arrive c k = let some = k.arrive in omega arith

-- The greatest margin.
pub value_bound-small : (c : ChainData) → IsChain c → value_bound c ≤ 10 ^ 15
value_bound-small c k = let h = top_below_small c.margins 1000000000 (place_count c) k.margins in omega arith

-- What arriving customers bring.
pub arriving_small : (c : ChainData) (f : ℕ → ℕ) → ((i : ℕ) → i < place_count c → f i ≤ 10 ^ 15) → arriving c f ≤ customer_count c * 10 ^ 15
arriving_small c f small =
    let w : ℕ → ℕ = λ i. slice_index c.arrivals i in
    let most = weighed_most (place_count c) (10 ^ 15) w f small in
    let one = sum_le (place_count c) (λ i. w i * 1) w (λ i l. omega arith) in
    omega arith

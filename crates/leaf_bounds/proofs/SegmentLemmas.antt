-- Numbers of segments, under mixed logit: the sums of the prices above them fit.
use Rattle.std.proofs.Common.{ℕ, ◌+◌, ◌*◌, ◌^◌, ◌<◌, ◌≤◌, List, length, arith}
use Rattle.std.specs.Prelude.{pos, negsuc, ◌-ℤ◌}
use lib.IntN.{ℤ}
use Rattle.std.proofs.lemmas.Int.{ints}
use Rattle.std.proofs.lemmas.List.Elements.{All-get_or}
use Rattle.std.proofs.Math.Nat.{mul-le-mul, mul-le-mul_left}
use Rattle.offer_model.specs.declared.node.Mark.{Mark}
use Rattle.offer_model.specs.declared.node.Mark.TheVariants.{In, Out, Open}
use Rattle.offer_model.specs.Nodes.{mark_at}
use Rattle.offer_model.specs.Prices.{prices_above, most_of}
use Rattle.offer_model.specs.Problems.{ProblemData, product_count, segment_at, no_product}
use Rattle.offer_model.specs.Validity.{IsProblem, IsProduct}
use Rattle.offer_model.proofs.EarningLemmas.{segment_at-valid, share_most}
use Rattle.linear_weights.specs.Weights.{IsWithin, SumsFit}
use Rattle.leaf_bounds.proofs.LadderLemmas.{within_sum}

price_within : (share gain units attraction : ℕ) → share ≤ 10 ^ 9 → gain ≤ 10 ^ 18 → units ≤ 10 ^ 18 → attraction ≤ 10 ^ 9
    → IsWithin (2 ^ 98) (pos (share * gain) -ℤ pos ((units + 1) * attraction))
price_within share gain units attraction s g u a =
    let brings : share * gain ≤ share * 10 ^ 18 = mul-le-mul_left share g in
    let costs : (units + 1) * attraction ≤ (units + 1) * 10 ^ 9 = mul-le-mul_left (units + 1) a in
    (omega (arith, ints), omega (arith, ints))

most_within : (m : Mark) (z : ℤ) → IsWithin (2 ^ 98) z → IsWithin (2 ^ 98) (most_of m z)
most_within In z w = w
most_within Out z w = (omega (arith, ints), omega (arith, ints))
most_within Open (pos n) w = w
most_within Open (negsuc n) w = (omega (arith, ints), omega (arith, ints))

-- Each price above so many units is small.
pub above_within : (p : ProblemData) (k units i : ℕ) → IsProblem p → k < length p.segments → units ≤ 10 ^ 18 → i < product_count p
    → IsWithin (2 ^ 98) ((prices_above p (segment_at p k) units).price i)
above_within p k units i valid inside few here =
    let margin = (All-get_or IsProduct p.products i no_product here valid.products).margin in
    let attraction = (segment_at-valid p k valid inside).attraction i in
    price_within _ _ units _ (share_most p k valid inside) (mul-le-mul margin attraction) few attraction

-- So is each sum of what products add at most.
pub above_fits : (p : ProblemData) (node : List Mark) (k units : ℕ) → IsProblem p → k < length p.segments → units ≤ 10 ^ 18
    → SumsFit p node (prices_above p (segment_at p k) units)
above_fits p node k units valid inside few n l =
    let at = prices_above p (segment_at p k) units in
    let sum = within_sum n (λ i. most_of (mark_at node i) (at.price i))
    (λ i h. most_within (mark_at node i) (at.price i) (above_within p k units i valid inside few (omega arith))) in
    let none = (segment_at-valid p k valid inside).none.1 in
    let costs : (units + 1) * (segment_at p k).none ≤ (units + 1) * 10 ^ 9 = mul-le-mul_left (units + 1) none in
    let a = sum.0 in let b = sum.1 in let most = valid.few in
    (omega (arith, ints), omega (arith, ints))

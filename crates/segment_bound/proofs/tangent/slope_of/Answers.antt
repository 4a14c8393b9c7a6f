use Rattle.std.proofs.Common.{◌+◌, ◌*◌, ◌^◌, ◌≤◌, length, ℕ, arith, refl, sym, subst}
use Rattle.std.specs.List.{All}
use Rattle.std.proofs.Math.Nat.{mul-le-mul_right}
use Rattle.std.proofs.lemmas.List.Sums.{sum_by-le}
use Rattle.offer_model.proofs.EarningLemmas.{segment_at-valid}
use Rattle.segment_bound.specs.Kept.{IsListed}
use Rattle.segment_bound.specs.Slopes.{open_attraction}
use Rattle.segment_bound.proofs.OrderLemmas.{length-order, order_listed}
use Rattle.segment_bound.proofs.KeptLemmas.{start_small}
use Rattle.segment_bound.proofs.TopListLemmas.{top_of}
use Rattle.segment_bound.proofs.TangentValueLemmas.{scale_is}
use Rattle.segment_bound.proofs.tangent.slope_of.Goals as goal
use Rattle.segment_bound.proofs.tangent.slope_of.Goals.{After-top_sum}

pub list_attractions-requires-clause-listed : goal.list_attractions-requires-clause-listed
list_attractions-requires-clause-listed c =
    subst (λ (n : ℕ). All (IsListed n) c.args.order.now) (sym c.requires.node) (order_listed c.args.p.now c.args.order.now c.share-share.ensures.valid c.requires.order)

pub top_sum-requires-clause-few : goal.top_sum-requires-clause-few
top_sum-requires-clause-few c =
    let long = length-order c.args.p.now c.args.order.now c.requires.order in
    let few = c.share-share.ensures.valid.few in
    let less = c.list_attractions.ensures.few in
    omega (arith, long, few, less)

-- What is Open weighs at most this.
open_most : (c : After-top_sum) → c.top_sum.result ≤ 256 * 10 ^ 9
open_most c =
    let all = sum_by-le (λ (x : ℕ). x) (10 ^ 9) c.list_attractions.new.numbers.items c.list_attractions.ensures.small in
    let most = c.top_sum.ensures.most in
    let less = c.list_attractions.ensures.few in
    let long = length-order c.args.p.now c.args.order.now c.requires.order in
    let few = c.share-share.ensures.valid.few in
    let t = mul-le-mul_right {m = length c.list_attractions.new.numbers.items} {n = 256} (10 ^ 9) (omega (arith, less, long, few)) in
    omega (arith, all, most, t)

pub overflow_cast-heaviest : goal.overflow_cast-heaviest
overflow_cast-heaviest c = let t = open_most (goal.at.overflow_cast-heaviest c).After-top_sum in grind (arith, t)

pub overflow_add-heaviest : goal.overflow_add-heaviest
overflow_add-heaviest c =
    let small = start_small c.args.p.now c.args.order.now c.args.segment.now c.args.node.now c.args.sums c.share-share.ensures.valid c.requires.order
    (rw c.requires.segment (segment_at-valid c.args.p.now c.args.k c.share-share.ensures.valid c.requires.inside)) c.requires.sums in
    let weight = small.1 in
    let most = open_most (goal.at.overflow_add-heaviest c).After-top_sum in
    let t : c.args.sums.weight + c.top_sum.result ≤ 513 * 10 ^ 9 = omega (arith, weight, most) in
    grind (arith, t)

pub returns-clause-slope : goal.returns-clause-slope
returns-clause-slope c = record {
  units = c.requires.units;
  share = c.share-share.ensures.value;
  scale = scale_is c.args.p.now c.args.order.now c.args.node.now c.args.k c.args.segment.now c.args.sums c.args.room c.top_sum.result (c.args.sums.weight + c.top_sum.result) c.share-share.ensures.valid c.requires.model c.requires.inside c.requires.order c.requires.segment c.requires.sums
      c.requires.room (top_of c.list_attractions.new.numbers.items (length c.args.order.now) (open_attraction c.args.order.now c.args.segment.now c.args.node.now) c.args.room c.top_sum.result c.list_attractions.ensures.lists c.top_sum.ensures.top) refl;
}

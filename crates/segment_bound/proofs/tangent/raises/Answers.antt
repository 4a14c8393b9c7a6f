use Rattle.std.proofs.Common.{ℕ, ◌*◌, ◌^◌, length, sym, subst, arith}
use Rattle.std.proofs.Math.Nat.{mul-le-mul_right}
use Rattle.std.proofs.lemmas.List.Sums.{sum_by-le}
use Rattle.segment_bound.specs.Tops.{IsTopOf}
use Rattle.segment_bound.specs.Slopes.{open_raise}
use Rattle.segment_bound.proofs.TopListLemmas.{top_none, top_of}
use Rattle.segment_bound.proofs.tangent.raises.Goals as goal

pub returns-then-room-eq0-clause-top : goal.returns-then-room-eq0-clause-top
returns-then-room-eq0-clause-top c =
    subst (λ (room : ℕ). IsTopOf (length c.args.order.now) (open_raise c.args.order.now c.args.segments.now.items c.args.slopes.now c.args.node.now) room 0) (sym c.if-room-eq0.true)
    (top_none (length c.args.order.now) (open_raise c.args.order.now c.args.segments.now.items c.args.slopes.now c.args.node.now))

pub returns-clause-top : goal.returns-clause-top
returns-clause-top c =
    top_of c.list_raises.new.numbers.items (length c.args.order.now) (open_raise c.args.order.now c.args.segments.now.items c.args.slopes.now c.args.node.now) c.args.room c.top_sum.result c.list_raises.ensures.lists c.top_sum.ensures.top

pub returns-clause-bound : goal.returns-clause-bound
returns-clause-bound c =
    let all = sum_by-le (λ (x : ℕ). x) (2 ^ 60 * 10 ^ 18) c.list_raises.new.numbers.items c.list_raises.ensures.small in
    let most = c.top_sum.ensures.most in
    let few = c.list_raises.ensures.few in
    let some = c.requires.few in
    let t = mul-le-mul_right {m = length c.list_raises.new.numbers.items} {n = 256} (2 ^ 60 * 10 ^ 18) (omega (arith, few, some)) in
    omega (arith, all, most, t)

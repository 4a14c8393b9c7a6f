use Rattle.std.proofs.Common.{◌≡◌, ℕ, ◌^◌, ◌≤◌, Bool, true, false, cond, sym, ap, ◌∙◌, refl, arith}
use Rattle.offer_model.specs.Problems.{attraction_of}
use Rattle.offer_model.specs.Nodes.{mark_at, is_open}
use Rattle.segment_bound.specs.Orders.{listed_at}
use Rattle.segment_bound.specs.Slopes.{open_attraction}
use Rattle.segment_bound.proofs.TopListLemmas.{lists_some, lists_skip, small_some, few_some}
use Rattle.segment_bound.proofs.tangent.list_attractions.Goals as goal
use Rattle.segment_bound.proofs.tangent.list_attractions.Goals.{then-is_open, else-is_open}

where_open : (b : Bool) (x v : ℕ) → b ≡ true → x ≡ v → x ≡ cond b v 0
where_open b x v e f = rw e f

elsewhere : (b : Bool) (v : ℕ) → b ≡ false → cond b v 0 ≡ 0
elsewhere b v e = rw e refl

small_is : (x a v : ℕ) → x ≡ a → a ≡ v → v ≤ 1000000000 → x ≤ 10 ^ 9
small_is x a v e f l = omega (arith, e, f, l)

pub loop-r-preserved : goal.loop-r-preserved
loop-r-preserved c = elim c.if-is_open.branch [
  | then-is_open w ↦ rw (w.numbers-is, w.push_some.ensures.items) (record {
    lists = lists_some c.loop-r.r (open_attraction c.args.order.now c.args.segment.now c.args.node.now) c.loop-r.numbers.items w.from.result c.loop-r.invariant.lists
        (where_open (is_open (mark_at c.args.node.now (listed_at c.args.order.now c.loop-r.r).product)) w.from.result (attraction_of c.args.segment.now (listed_at c.args.order.now c.loop-r.r).product)
        (ap is_open (sym c.mark.ensures) ∙ (sym c.is_open.ensures ∙ w.if-is_open.true)) (w.from.ensures ∙ w.attract.ensures.value));
    small = small_some (10 ^ 9) c.loop-r.numbers.items w.from.result c.loop-r.invariant.small (small_is w.from.result w.attract.result (attraction_of c.args.segment.now (listed_at c.args.order.now c.loop-r.r).product) w.from.ensures w.attract.ensures.value (w.attract.ensures.valid.attraction (listed_at c.args.order.now c.loop-r.r).product));
    few = few_some c.loop-r.numbers.items w.from.result c.loop-r.r c.loop-r.invariant.few;
    space = w.push_some.ensures.space ∙ c.loop-r.invariant.space;
  })
  | else-is_open w ↦ rw w.numbers-is (record {
    lists = lists_skip c.loop-r.r (open_attraction c.args.order.now c.args.segment.now c.args.node.now) c.loop-r.numbers.items c.loop-r.invariant.lists
        (elsewhere (is_open (mark_at c.args.node.now (listed_at c.args.order.now c.loop-r.r).product)) (attraction_of c.args.segment.now (listed_at c.args.order.now c.loop-r.r).product)
        (ap is_open (sym c.mark.ensures) ∙ (sym c.is_open.ensures ∙ w.if-is_open.false)));
    small = c.loop-r.invariant.small;
    few = (let few = c.loop-r.invariant.few in omega (arith, few));
    space = c.loop-r.invariant.space;
  })
]

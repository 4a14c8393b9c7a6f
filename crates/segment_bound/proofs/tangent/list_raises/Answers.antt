use Rattle.std.proofs.Common.{◌≡◌, ℕ, ◌*◌, ◌^◌, ◌<◌, Bool, true, false, cond, length, refl, sym, ap, ◌∙◌, arith}
use Rattle.offer_model.specs.Nodes.{mark_at, is_open}
use Rattle.segment_bound.specs.Orders.{listed_at}
use Rattle.segment_bound.specs.Slopes.{raise_of, open_raise}
use Rattle.segment_bound.proofs.SlopeLemmas.{cheap_after}
use Rattle.segment_bound.proofs.TopListLemmas.{lists_some, lists_skip, lists_rest, small_some, few_some}
use Rattle.segment_bound.proofs.tangent.list_raises.Goals as goal
use Rattle.segment_bound.proofs.tangent.list_raises.Goals.{then-is_open, else-is_open}

where_open : (b : Bool) (x v : ℕ) → b ≡ true → x ≡ v → x ≡ cond b v 0
where_open b x v e f = rw e f

elsewhere : (b : Bool) (v : ℕ) → b ≡ false → cond b v 0 ≡ 0
elsewhere b v e = rw e refl

pub loop-r-preserved : goal.loop-r-preserved
loop-r-preserved c = elim c.if-is_open.branch [
  | then-is_open w ↦ rw (w.numbers-is, w.push_some.ensures.items) (record {
    lists = lists_some c.loop-r.r (open_raise c.args.order.now c.args.segments.now.items c.args.slopes.now c.args.node.now) c.loop-r.numbers.items w.raise.result c.loop-r.invariant.lists
        (where_open (is_open (mark_at c.args.node.now (listed_at c.args.order.now c.loop-r.r).product)) w.raise.result (raise_of c.args.segments.now.items c.args.slopes.now (listed_at c.args.order.now c.loop-r.r))
        (ap is_open (sym c.mark.ensures) ∙ (sym c.is_open.ensures ∙ w.if-is_open.true)) w.raise.ensures.value);
    small = small_some (2 ^ 60 * 10 ^ 18) c.loop-r.numbers.items w.raise.result c.loop-r.invariant.small w.raise.ensures.bound;
    few = few_some c.loop-r.numbers.items w.raise.result c.loop-r.r c.loop-r.invariant.few;
    space = w.push_some.ensures.space ∙ c.loop-r.invariant.space;
  })
  | else-is_open w ↦ rw w.numbers-is (record {
    lists = lists_skip c.loop-r.r (open_raise c.args.order.now c.args.segments.now.items c.args.slopes.now c.args.node.now) c.loop-r.numbers.items c.loop-r.invariant.lists
        (elsewhere (is_open (mark_at c.args.node.now (listed_at c.args.order.now c.loop-r.r).product)) (raise_of c.args.segments.now.items c.args.slopes.now (listed_at c.args.order.now c.loop-r.r))
        (ap is_open (sym c.mark.ensures) ∙ (sym c.is_open.ensures ∙ w.if-is_open.false)));
    small = c.loop-r.invariant.small;
    few = (let few = c.loop-r.invariant.few in omega (arith, few));
    space = c.loop-r.invariant.space;
  })
]

pub returns-then-not-is_dear-clause-lists : goal.returns-then-not-is_dear-clause-lists
returns-then-not-is_dear-clause-lists c =
    let inside : c.loop-r.r < length c.args.order.now = c.loop-r-test.true in
    lists_rest c.loop-r.r (length c.args.order.now) (open_raise c.args.order.now c.args.segments.now.items c.args.slopes.now c.args.node.now) c.loop-r.numbers.items c.loop-r.invariant.lists (omega (arith, inside))
    (cheap_after c.args.order.now c.args.segments.now.items c.args.slopes.now c.args.node.now c.loop-r.r c.requires.falling inside (c.if-not-is_dear.ensures.cheap refl))

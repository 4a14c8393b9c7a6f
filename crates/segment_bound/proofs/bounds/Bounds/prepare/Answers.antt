use Rattle.std.proofs.Common.{rules, ◌≡◌}
use Rattle.offer_model.specs.Problems.{product_count}
use Rattle.offer_model.specs.Nodes.{open_node}
use Rattle.segment_bound.specs.Orders.{IsOrder}
use Rattle.segment_bound.specs.Kept.{AreEmptySums}
use Rattle.segment_bound.proofs.KeptLemmas.{kept_new}
use Rattle.segment_bound.proofs.bounds.Bounds.prepare.Goals as goal

pub invariant_of-result : goal.invariant_of-result
invariant_of-result c =
    let last : c.in_ok-last.last ≡ open_node (product_count c.args.p.now) = search rules in
    let ordered : IsOrder c.args.p.now c.in_ok-order.order.items = search rules in
    let same : c.in_ok-segments.segments.items ≡ c.args.p.now.segments = search rules in
    let empty : AreEmptySums c.in_ok-segments.segments.items c.in_ok-sums.sums.items = search rules in
    rw last (kept_new c.args.p.now c.in_ok-order.order.items c.in_ok-segments.segments.items c.in_ok-sums.sums.items c.segments.ensures.valid ordered same empty)

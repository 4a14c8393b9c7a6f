use Rattle.std.proofs.Common.{rules, ◌∙◌, sym}
use Rattle.segment_bound.specs.Orders.{IsOrder}
use Rattle.segment_bound.proofs.OrderLemmas.{length-order}
use Rattle.segment_bound.proofs.bounds.Bounds.by_price.Goals as goal

pub follow-requires-clause-node : goal.follow-requires-clause-node
follow-requires-clause-node c =
    let o : IsOrder c.args.p.now c.deref.result.now = search rules in
    c.requires.node ∙ sym (length-order c.args.p.now c.deref.result.now o)

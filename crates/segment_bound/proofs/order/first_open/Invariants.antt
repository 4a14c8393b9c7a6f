use Rattle.std.proofs.Common.{◌≡◌, drop}
use Rattle.segment_bound.specs.Orders.{first_in}
use Rattle.segment_bound.proofs.order.first_open.Given as goal

abbrev pub invariant-loop-q : goal.invariant-loop-q
invariant-loop-q l = first_in l.node (drop l.q-index l.order) ≡ first_in l.node l.order

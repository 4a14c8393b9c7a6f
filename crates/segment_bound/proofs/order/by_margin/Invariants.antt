use Rattle.std.proofs.Common.{◌≡◌, ◌≤◌}
use Rattle.std.specs.Prelude.{vec_len, vec_capacity}
use Rattle.segment_bound.specs.Orders.{ranked}
use Rattle.segment_bound.proofs.order.by_margin.Given as goal

abbrev pub invariant-loop-product : goal.invariant-loop-product
invariant-loop-product l = record {
  items : l.order.items ≡ ranked l.p l.product;
  len : vec_len l.order ≡ l.product;
  room : l.product-end ≤ vec_capacity l.order;
}

use Rattle.std.proofs.Common.{◌≡◌, length}
use Rattle.std.specs.Prelude.{vec_capacity}
use Rattle.several_step.proofs.branch_order.rank.Given as goal

abbrev pub invariant-loop-i : goal.invariant-loop-i
invariant-loop-i l = record {
  few : length l.order.items ≡ l.i;
  room : vec_capacity l.order ≡ vec_capacity l.fn.order;
}

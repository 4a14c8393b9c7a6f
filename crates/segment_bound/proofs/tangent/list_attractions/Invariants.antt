use Rattle.std.proofs.Common.{◌≡◌, ◌^◌, ◌≤◌, length}
use Rattle.std.specs.Prelude.{vec_capacity}
use Rattle.std.specs.List.{All}
use Rattle.segment_bound.specs.Tops.{Lists}
use Rattle.segment_bound.specs.Slopes.{open_attraction}
use Rattle.segment_bound.proofs.tangent.list_attractions.Given as goal

abbrev pub invariant-loop-r : goal.invariant-loop-r
invariant-loop-r l = record {
  lists : Lists l.r (open_attraction l.order l.segment l.node) l.numbers.items;
  small : All (λ x. x ≤ 10 ^ 9) l.numbers.items;
  few : length l.numbers.items ≤ l.r;
  space : vec_capacity l.numbers ≡ vec_capacity l.fn.numbers;
}

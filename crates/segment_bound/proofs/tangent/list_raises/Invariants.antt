use Rattle.std.proofs.Common.{◌≡◌, ◌*◌, ◌^◌, ◌≤◌, length}
use Rattle.std.specs.Prelude.{vec_capacity}
use Rattle.std.specs.List.{All}
use Rattle.segment_bound.specs.Tops.{Lists}
use Rattle.segment_bound.specs.Slopes.{open_raise}
use Rattle.segment_bound.proofs.tangent.list_raises.Given as goal

abbrev pub invariant-loop-r : goal.invariant-loop-r
invariant-loop-r l = record {
  lists : Lists l.r (open_raise l.order l.segments.items l.slopes l.node) l.numbers.items;
  small : All (λ x. x ≤ 2 ^ 60 * 10 ^ 18) l.numbers.items;
  few : length l.numbers.items ≤ l.r;
  space : vec_capacity l.numbers ≡ vec_capacity l.fn.numbers;
}

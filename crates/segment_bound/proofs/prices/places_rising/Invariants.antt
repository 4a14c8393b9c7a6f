use Rattle.std.proofs.Common.{◌≡◌, ◌≤◌, ◌<◌, length}
use Rattle.std.specs.Prelude.{vec_len, vec_capacity}
use Rattle.std.specs.List.{All}
use Rattle.segment_bound.proofs.prices.places_rising.Given as goal

abbrev pub invariant-loop-i : goal.invariant-loop-i
invariant-loop-i l = record {
  inside : All (λ i. i < length l.numbers) l.order.items;
  len : vec_len l.order ≡ l.i;
  room : l.i-end ≤ vec_capacity l.order;
}

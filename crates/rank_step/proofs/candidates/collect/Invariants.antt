use Rattle.std.proofs.Common.{◌≡◌, ◌≤◌, length}
use Rattle.std.specs.Prelude.{vec_capacity}
use Rattle.linear_step.specs.Weights.{weight_at}
use Rattle.rank_step.specs.Candidates.{Collects}
use Rattle.rank_step.proofs.candidates.collect.Given as goal

abbrev pub invariant-loop-i : goal.invariant-loop-i
invariant-loop-i l = record {
  candidates : Collects l.p l.node (weight_at l.weights) l.i l.list.items;
  few : length l.list.items ≤ l.i;
  room : vec_capacity l.list ≡ vec_capacity l.fn.list;
}

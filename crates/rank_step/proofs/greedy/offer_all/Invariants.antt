use Rattle.linear_step.specs.Weights.{weight_at}
use Rattle.rank_step.specs.Greedy.{IsFilling, IsPast}
use Rattle.rank_step.proofs.greedy.offer_all.Given as goal

abbrev pub invariant-loop-k : goal.invariant-loop-k
invariant-loop-k l = record {
  filling : IsFilling l.p l.node (weight_at l.weights) l.at l.x l.rooms;
  past : IsPast l.p l.node (weight_at l.weights) l.at l.list l.k l.x l.rooms;
}

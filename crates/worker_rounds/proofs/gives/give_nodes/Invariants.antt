use Rattle.std.proofs.Common.{◌⊎◌, ◌∷◌}
use Rattle.worker_rounds.specs.Crews.{HasNodes, HasNoTwoNodes, SharesNodes}
use Rattle.worker_rounds.proofs.ListLemmas.{EachOfFirst}
use Rattle.worker_rounds.proofs.gives.give_nodes.Given as goal

abbrev pub invariant-loop-i : goal.invariant-loop-i
invariant-loop-i g l = record {
  shared : SharesNodes (l.initial.donor ∷ l.initial.others) (l.donor ∷ l.others);
  even : HasNoTwoNodes l.donor ⊎ EachOfFirst HasNodes l.i l.others;
}

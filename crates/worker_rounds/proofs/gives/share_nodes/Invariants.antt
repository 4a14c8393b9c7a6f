use Rattle.worker_rounds.specs.Crews.{SharesNodes}
use Rattle.worker_rounds.proofs.GiveLemmas.{IsEvenTo}
use Rattle.worker_rounds.proofs.gives.share_nodes.Given as goal

abbrev pub invariant-loop-i : goal.invariant-loop-i
invariant-loop-i g l = record {
  shared : SharesNodes l.initial.crew l.crew;
  -- So far the crew is even.
  even : IsEvenTo l.i l.crew;
}

use Rattle.std.proofs.Common.{◌≡◌, ◌≤◌}
use Rattle.std.specs.Prelude.{vec_len}
use Rattle.worker_rounds.specs.Crews.{IsCrew, shares}
use Rattle.worker_rounds.proofs.MeasureLemmas.{weights}
use Rattle.worker_rounds.proofs.together.search_from.Given as goal

abbrev pub invariant-loop-desk : goal.invariant-loop-desk
invariant-loop-desk g l = record {
  crew : IsCrew g.T.Goal.rules l.goal l.desk l.crew.items;
  shares : shares l.crew.items ≡ shares l.initial.crew.items;
  some : 1 ≤ vec_len l.crew;
}

-- What all may still do: claims, each worth more than all that can come of a stack, and the sizes of the stacks.
abbrev pub decreases-loop-desk : goal.decreases-loop-desk
decreases-loop-desk g l = weights l.desk.tasks (g.T.Goal.rules l.goal).products l.crew.items

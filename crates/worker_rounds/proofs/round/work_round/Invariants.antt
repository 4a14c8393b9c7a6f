use Rattle.std.proofs.Common.{◌≡◌}
use Rattle.shared_best.specs.Places.{BelongsTo}
use Rattle.worker_rounds.proofs.RoundLemmas.{IsAfter}
use Rattle.worker_rounds.proofs.round.work_round.Given as goal

abbrev pub invariant-loop-taken : goal.invariant-loop-taken
invariant-loop-taken g l = record {
  same : l.goal ≡ l.initial.goal;
  of : BelongsTo l.place l.desk;
  after : IsAfter (g.T.Goal.rules l.initial.goal) l._taken l.desk.tasks l.initial.place.view l.place.view l.initial.walker l.walker;
}

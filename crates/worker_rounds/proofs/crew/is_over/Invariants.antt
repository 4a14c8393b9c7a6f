use Rattle.std.proofs.Common.{ℕ, ◌<◌, get_or}
use Rattle.worker_rounds.specs.declared.crew.Worker.{Worker}
use Rattle.worker_rounds.specs.Crews.{IsWorkerAtRest}
use Rattle.worker_rounds.proofs.crew.is_over.Given as goal

abbrev pub invariant-loop-i : goal.invariant-loop-i
invariant-loop-i g l = (k : ℕ) (d : Worker g.row.T.Denot) → k < l.i → IsWorkerAtRest (get_or l.crew k d)

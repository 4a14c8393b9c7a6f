use Rattle.std.proofs.Common.{subst}
use Rattle.worker_rounds.specs.declared.crew.Worker.{Worker}
use Rattle.worker_rounds.specs.Crews.{IsWorkerBusy}
use Rattle.worker_rounds.proofs.ListLemmas.{any_at}
use Rattle.worker_rounds.proofs.crew.is_over.Goals as goal

pub returns-then-is_busy-clause-busy : goal.returns-then-is_busy-clause-busy
returns-then-is_busy-clause-busy g c = λ e. any_at IsWorkerBusy _ c.loop-i.i c.index-crew-i.result c.loop-i-test.true
    (subst (λ (w : Worker g.row.T.Denot). IsWorkerBusy w) c.index-crew-i.is (c.is_busy.ensures.busy c.if-is_busy.true))

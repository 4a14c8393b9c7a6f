use Rattle.worker_rounds.proofs.ListLemmas.{pairwise_joined}
use Rattle.worker_rounds.specs.Crews.{WorkerRound}
use Rattle.worker_rounds.proofs.halves.+crew.Goals as goal

pub run_all-returns : goal.run_all-returns
run_all-returns g t c = pairwise_joined (WorkerRound g.T.Goal.rules c.args.desk.now) _ _ _ _ _ c.split_at_mut-front.ensures.value c.both_halves.ensures.front c.both_halves.ensures.back

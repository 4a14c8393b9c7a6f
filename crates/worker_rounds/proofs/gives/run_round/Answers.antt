use Rattle.worker_rounds.proofs.CrewLemmas.{worked_long}
use Rattle.worker_rounds.proofs.gives.run_round.Goals as goal

pub share_nodes-requires : goal.share_nodes-requires
share_nodes-requires g c = (c.requires.products.0, worked_long g.T.Goal.rules c.args.desk.now c.requires.products.0 c.args.crew.now c.run_all.new.workers c.run_all.ensures c.requires.products.1)

pub returns : goal.returns
returns g c = record { round = record { between = c.run_all.new.workers; worked = c.run_all.ensures; shared = c.share_nodes.ensures.shared; even = c.share_nodes.ensures.even } }

use Rattle.worker_rounds.proofs.ShareLemmas.{shared_around}
use Rattle.worker_rounds.proofs.GiveLemmas.{even_around}
use Rattle.worker_rounds.proofs.gives.give_from.Goals as goal

pub returns-clause-shared : goal.returns-clause-shared
returns-clause-shared g c = shared_around _ _ _ _ _ _ _ c.give_nodes.ensures.shared c.give_nodes-2.ensures.shared

pub returns-clause-even : goal.returns-clause-even
returns-clause-even g c = even_around _ _ _ _ _ c.give_nodes.ensures.even c.give_nodes-2.ensures.shared c.give_nodes-2.ensures.even

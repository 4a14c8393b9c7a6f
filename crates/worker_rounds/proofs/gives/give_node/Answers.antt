use Rattle.std.proofs.Common.{rules, inr}
use Rattle.worker_rounds.proofs.GiveLemmas.{given_shared, given_some}
use Rattle.worker_rounds.proofs.gives.give_node.Goals as goal

pub returns-then-idle-clause-shared : goal.returns-then-idle-clause-shared
returns-then-idle-clause-shared g c =
    given_shared _ _ _ _ c.give.ensures.given (search rules) (c.idle.ensures.empty.0 c.if-idle.true) c.give.ensures.sound.0 c.give.ensures.sound.1

pub returns-then-idle-clause-even : goal.returns-then-idle-clause-even
returns-then-idle-clause-even g c = inr (given_some c.args.donor.now c.args.other.now _ _ c.give.ensures.given)

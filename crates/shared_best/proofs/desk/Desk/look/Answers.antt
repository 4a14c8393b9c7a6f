use Rattle.std.proofs.Common.{rules}
use Rattle.shared_best.proofs.StepLemmas.{look_allowed}
use Rattle.shared_best.proofs.desk.Desk.look.Goals as goal

pub load-requires : goal.load-requires
load-requires c = (search rules, search rules, look_allowed _ _ _ _ c.place.invariant.1)

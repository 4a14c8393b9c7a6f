use Rattle.std.proofs.Common.{rules}
use Rattle.shared_best.proofs.StepLemmas.{tell_allowed}
use Rattle.shared_best.proofs.desk.Desk.tell.Goals as goal

pub fetch_max-requires : goal.fetch_max-requires
fetch_max-requires c = (search rules, search rules, tell_allowed _ _ _ _ _ c.place.invariant.1)

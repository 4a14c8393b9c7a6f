use Rattle.std.proofs.Common.{rules}
use Rattle.shared_best.proofs.StepLemmas.{join_allowed, done_join}
use Rattle.shared_best.proofs.desk.Desk.join.Goals as goal

pub join_seat-requires : goal.join_seat-requires
join_seat-requires c = (search rules, search rules, search rules, search rules, join_allowed _ _ _ _ _ c.place.invariant.1)

pub invariant_of-place : goal.invariant_of-place
invariant_of-place c = (search rules, search rules, search rules, done_join _ c.other.inside.seat.me _ _ _ c.place.invariant.3 c.other.invariant.3 (search rules) c.join_seat.ensures.2)

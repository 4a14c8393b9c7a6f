use Rattle.std.proofs.Common.{rules}
use Rattle.shared_best.proofs.StepLemmas.{take_allowed, done_take}
use Rattle.shared_best.proofs.desk.Desk.take.Goals as goal

pub fetch_add-number-requires : goal.fetch_add-number-requires
fetch_add-number-requires c = (search rules, search rules, take_allowed _ _ _ _ (search rules) c.place.invariant.1)

pub invariant_of-place : goal.invariant_of-place
invariant_of-place c = (search rules, search rules, search rules, done_take _ _ _ _ c.place.invariant.2 (search rules) c.fetch_add-number.ensures.2.0)

use Rattle.std.proofs.Common.{rules}
use Rattle.shared_best.proofs.StepLemmas.{split_allowed}
use Rattle.shared_best.proofs.desk.Desk.split.Goals as goal

pub split_seat-seat-requires : goal.split_seat-seat-requires
split_seat-seat-requires c = (search rules, search rules, split_allowed _ _ _ (search rules) (search rules))

use Rattle.std.proofs.Common.{false, arith}
use Rattle.search_rows.proofs.RangeLemmas.{in_range}
use Rattle.search_rows.proofs.rounds.a_worker_looks_at_what_another_told.Goals as goal

pub work_round-requires-clause-answers : goal.work_round-requires-clause-answers
work_round-requires-clause-answers g c = in_range (record { products = 20; valued = false }) (omega arith)

use Rattle.std.proofs.Common.{true, arith}
use Rattle.search_rows.proofs.RangeLemmas.{in_range}
use Rattle.search_rows.proofs.searches.offered_by.Goals as goal

pub search_together-requires-clause-answers : goal.search_together-requires-clause-answers
search_together-requires-clause-answers g c κs within = in_range (record { products = 20; valued = true }) (omega arith)

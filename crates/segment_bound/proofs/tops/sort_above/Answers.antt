use Rattle.std.proofs.Common.{ℕ}
use Rattle.std.proofs.lemmas.List.Sorted.{IsNonDecreasingBy-from_sort}
use Rattle.segment_bound.proofs.tops.sort_above.Goals as goal

pub returns-then-len-room-clause-rising : goal.returns-then-len-room-clause-rising
returns-then-len-room-clause-rising c above = IsNonDecreasingBy-from_sort (λ (x : ℕ). x) c.sort_unstable.new.self.items c.sort_unstable.ensures.sorted

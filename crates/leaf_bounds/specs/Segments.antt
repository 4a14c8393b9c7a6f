-- When the number of one segment fits. Own.
use Rattle.std.specs.Prelude.{ℕ, ◌≤◌, ◌^◌, List, pos, ◌<ℤ◌}
use Rattle.offer_model.specs.declared.node.Mark.{Mark}
use Rattle.offer_model.specs.Problems.{ProblemData, segment_at}
use Rattle.offer_model.specs.Prices.{prices_above, greatest_worth}

-- The number is in its range, and at the prices above it each completion is worth less than 0 in segment k: none brings more there.
abbrev pub FitsSegment : ProblemData → List Mark → ℕ → ℕ → Type 0
FitsSegment p node k units = (units ≤ 10 ^ 18) × (greatest_worth p node (prices_above p (segment_at p k) units) <ℤ pos 0)

use Rattle.std.proofs.Common.{◌≡◌, take, sum_by}
use Rattle.catalogue_rows.proofs.products.nobody_arrives.Given as goal

-- nobody arrives at the rows so far
abbrev pub invariant-loop-row : goal.invariant-loop-row
invariant-loop-row l = sum_by (λ row. row.arrival) (take l.row-index l.rows) ≡ 0

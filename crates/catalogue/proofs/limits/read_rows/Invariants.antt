use Rattle.std.proofs.Common.{◌≡◌, ◌+◌, ◌≤◌, ◌<◌, ℕ, None, length, count_by, min}
use Rattle.offer_model.specs.declared.ranges.TheConstants.{MOST_LIMITS}
use Rattle.offer_model.specs.Validity.{is_requires}
use Rattle.catalogue.specs.LimitTables.{limits_before, limit_fault}
use Rattle.catalogue.proofs.limits.read_rows.Given as goal

-- no row so far has a fault, and the limits are theirs
abbrev pub invariant-rows : goal.invariant-rows
invariant-rows l = record {
  few : l.k ≤ MOST_LIMITS;
  clean : (j : ℕ) → j < l.k → limit_fault l.rows l.table j ≡ None;
  limits : l.limits.items ≡ limits_before l.rows l.table l.k;
  pairs : l.pairs ≡ count_by is_requires l.limits.items;
  room : min (length l.table.records) MOST_LIMITS ≤ l.limits.spare + l.k;
}

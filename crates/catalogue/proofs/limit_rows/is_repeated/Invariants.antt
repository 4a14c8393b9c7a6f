use Rattle.std.proofs.Common.{◌≡◌, take, false}
use Rattle.std.specs.List.{list_any}
use Rattle.catalogue.specs.LimitTables.{repeats}
use Rattle.catalogue.proofs.limit_rows.is_repeated.Given as goal

-- no limit so far is repeated
abbrev pub invariant-loop-k : goal.invariant-loop-k
invariant-loop-k l = list_any (repeats l.limit) (take l.k l.limits.items) ≡ false

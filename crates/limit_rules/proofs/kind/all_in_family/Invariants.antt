use Rattle.std.proofs.Common.{◌≡◌, take, true}
use Rattle.std.specs.List.{list_all}
use Rattle.limit_rules.specs.Kinds.{is_in_family}
use Rattle.limit_rules.proofs.kind.all_in_family.Given as goal

abbrev pub invariant-loop-k : goal.invariant-loop-k
invariant-loop-k l = list_all (is_in_family l.family) (take l.k l.limits.items) ≡ true

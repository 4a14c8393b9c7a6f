use Rattle.std.proofs.Common.{sum, ◌≤◌, ◌+◌}
use Rattle.chain_values.specs.Sweeps.{FallsBy}
use Rattle.chain_values.proofs.settle.settle.Given as goal

abbrev pub invariant-first : goal.invariant-first
invariant-first l = FallsBy l.chain l.rule l.values

abbrev pub invariant-sweeps : goal.invariant-sweeps
invariant-sweeps l = record {
  falls : FallsBy l.chain l.rule l.values;
  some : 2 ≤ l.wait;
}

abbrev pub invariant-loop : goal.invariant-loop
invariant-loop l = record {
  falls : FallsBy l.chain l.rule l.values;
  less : sum l.values + l.counter ≤ sum l.initial.values;
}

abbrev pub decreases-sweeps : goal.decreases-sweeps
decreases-sweeps l = sum l.values

use Rattle.std.proofs.Common.{◌≡◌, ◌≤◌}
use Rattle.offer_model.specs.Chains.{greatest_below}
use Rattle.chain_moves.proofs.values.value_bound.Given as goal

abbrev pub invariant-loop-i : goal.invariant-loop-i
invariant-loop-i l = record {
  is : l.most ≡ greatest_below l.chain.margins l.i;
  small : l.most ≤ 1000000000;
}

use Rattle.std.proofs.Common.{◌≡◌}
use Rattle.offer_model.specs.Chains.{least_leaving_below}
use Rattle.chain_moves.proofs.gap.least_leaving.Given as goal

abbrev pub invariant-loop-row : goal.invariant-loop-row
invariant-loop-row l = l.least ≡ least_leaving_below l.chain l.row-index

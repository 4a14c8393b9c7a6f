use Rattle.std.proofs.Common.{◌≡◌}
use Rattle.linear_weights.specs.Weights.{weight_at}
use Rattle.several_step.specs.Chains.{rung_at, stands, chain_of}
use Rattle.several_step.proofs.chains.best_before.Given as goal

abbrev pub invariant-loop-q : goal.invariant-loop-q
invariant-loop-q l = l.best ≡ chain_of l.node (weight_at l.list) l.rungs l.q (λ q. stands (rung_at l.rungs q) (rung_at l.rungs l.k))

use Rattle.std.proofs.Common.{◌≡◌, ℕ, ◌<◌, length, true, get_or}
use Rattle.std.specs.Prelude.{pos}
use Rattle.linear_weights.specs.Weights.{weight_at}
use Rattle.several_step.specs.Chains.{chain_of, ending_with}
use Rattle.several_step.proofs.chains.best_chain.Given as goal

abbrev pub invariant-loop-k : goal.invariant-loop-k
invariant-loop-k l = record {
  best : l.best ≡ chain_of l.node (weight_at l.list) l.rungs l.k (λ q. true);
  ends : (q : ℕ) → q < l.k → get_or l.ends q (pos 0) ≡ ending_with l.node (weight_at l.list) l.rungs q;
  room : length l.ends ≡ length l.fn.ends;
}

use Rattle.std.proofs.Common.{◌≡◌, length}
use Rattle.several_step.proofs.chains.take_chain.Given as goal

abbrev pub invariant-loop-k : goal.invariant-loop-k
invariant-loop-k l = length l.taken ≡ length l.fn.taken

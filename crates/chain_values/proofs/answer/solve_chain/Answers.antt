use Rattle.chain_values.proofs.CallerLemmas.{IsStopping-bracketed}
use Rattle.chain_values.proofs.answer.solve_chain.Goals as goal

pub returns-clause-claim : goal.returns-clause-claim
returns-clause-claim c = IsStopping-bracketed c.args.chain.now _ c.value_bound-most.ensures.valid c.in_ok-answer.ensures

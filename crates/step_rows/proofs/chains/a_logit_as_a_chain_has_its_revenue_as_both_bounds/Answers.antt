use Rattle.step_rows.proofs.ChainLemmas.{logit_chain-valid}
use Rattle.step_rows.proofs.chains.a_logit_as_a_chain_has_its_revenue_as_both_bounds.Goals as goal

pub chain_of-requires : goal.chain_of-requires
chain_of-requires g c = rw (c.arc.ensures, c.arc-2.ensures) logit_chain-valid

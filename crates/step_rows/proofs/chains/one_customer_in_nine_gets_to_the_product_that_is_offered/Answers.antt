use Rattle.offer_model.proofs.WorkedChainLemmas.{chains_worked}
use Rattle.step_rows.proofs.chains.one_customer_in_nine_gets_to_the_product_that_is_offered.Goals as goal

pub chain_of-requires : goal.chain_of-requires
chain_of-requires g c = rw (c.arc.ensures, c.arc-2.ensures) chains_worked.valid

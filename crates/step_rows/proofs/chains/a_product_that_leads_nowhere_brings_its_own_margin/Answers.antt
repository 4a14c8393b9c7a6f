use Rattle.step_rows.proofs.ChainLemmas.{dead_end-valid}
use Rattle.step_rows.proofs.chains.a_product_that_leads_nowhere_brings_its_own_margin.Goals as goal

pub chain_of-requires : goal.chain_of-requires
chain_of-requires g c = rw (c.arc.ensures, c.arc-2.ensures) dead_end-valid

use Rattle.step_rows.proofs.ChainLemmas.{lone_chain-valid}
use Rattle.step_rows.proofs.chains.one_product_without_arcs_brings_its_margin.Goals as goal

pub chain_of-requires : goal.chain_of-requires
chain_of-requires g c = lone_chain-valid

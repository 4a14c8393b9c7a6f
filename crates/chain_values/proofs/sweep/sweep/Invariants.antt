use Rattle.std.proofs.Common.{sum}
use Rattle.offer_model.specs.Chains.{place_count}
use Rattle.offer_model.specs.Stopping.{value_bound}
use Rattle.chain_values.specs.Sweeps.{next_value, Swept}
use Rattle.chain_values.proofs.sweep.sweep.Given as goal

abbrev pub invariant-products : goal.invariant-products
invariant-products l = Swept (place_count l.chain) (value_bound l.chain) (next_value l.chain l.rule) l.i (sum l.initial.values) l.fallen l.values

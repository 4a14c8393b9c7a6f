use Rattle.std.proofs.Common.{arith}
use Rattle.std.specs.Prelude.{slice_index}
use Rattle.chain_moves.proofs.ValueLemmas.{arriving_small}
use Rattle.chain_moves.proofs.totals.up_of.Goals as goal

pub rounded_up-requires-clause-small : goal.rounded_up-requires-clause-small
rounded_up-requires-clause-small c =
    let most = arriving_small c.args.chain.now (slice_index c.args.upper.now) (λ i l. c.requires.small i (omega (arith, c.requires.each))) in
    rw (c.arriving.ensures.value, c.customer_count.ensures.value) most

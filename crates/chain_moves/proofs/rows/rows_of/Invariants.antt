use Rattle.std.proofs.Common.{drop}
use Rattle.offer_model.specs.Chains.{place_count}
use Rattle.chain_moves.specs.Rows.{AreParts}
use Rattle.chain_moves.proofs.rows.rows_of.Given as goal

abbrev pub invariant-each : goal.invariant-each
invariant-each l = AreParts l.chain.arcs (drop l.arc-index l.chain.arcs) (place_count l.chain) l.rows.items

use Rattle.std.proofs.Common.{rules, subst}
use Rattle.shelf_table.specs.Tables.{IsTableOf, space_of, price_in}
use Rattle.table_steps.proofs.ShelfLemmas.{FitsShelf-from_parts}
use Rattle.table_steps.proofs.shelf.ShelfStep.prepare.Goals as goal

pub returns-clause-step : goal.returns-clause-step
returns-clause-step c = FitsShelf-from_parts c.args.p.now c.shelf_of-shelf.result c.in_ok-spaces.spaces.items c.in_ok-prices.prices.items c.fill.new.self
    c.shelf_of-shelf.ensures.shelf c.in_ok-spaces.ensures (search rules) (search rules) (search rules)
    (subst (λ q. IsTableOf c.fill.new.self (space_of c.args.p.now) (price_in q)) c.deref.ensures.value c.fill.ensures.table)

pub returns-clause-closer : goal.returns-clause-closer
returns-clause-closer c = returns-clause-step c

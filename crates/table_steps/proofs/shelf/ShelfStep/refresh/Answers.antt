use Rattle.std.proofs.Common.{rules, sym, subst, drop, length, ◌≡◌}
use Rattle.shelf_table.specs.Tables.{IsTableOf, space_of, price_in}
use Rattle.table_steps.proofs.ShelfLemmas.{FitsShelf-from_parts, fits_table, take_whole}
use Rattle.table_steps.proofs.shelf.ShelfStep.refresh.Goals as goal

pub refresh-requires-clause-table : goal.refresh-requires-clause-table
refresh-requires-clause-table c =
    let s = c.args.self.now in
    subst (λ q. IsTableOf s.table (space_of c.args.p.now) (price_in q)) (sym c.deref_mut.ensures.value)
    (fits_table c.args.p.now s.shelf s.spaces.items s.prices.items s.table c.requires.fits)

pub returns-clause-fits : goal.returns-clause-fits
returns-clause-fits c =
    let s = c.args.self.now in
    let now = c.refresh.new.prices in
    let long : length now ≡ s.prices.len = search rules in
    rw (take_whole s.prices.len now (drop (length now) s.prices.items) long)
    (FitsShelf-from_parts c.args.p.now s.shelf s.spaces.items now c.refresh.new.table
    c.requires.fits.limit c.requires.fits.same_spaces (search rules) (search rules) (search rules) c.refresh.ensures.table)

use Rattle.std.proofs.Common.{◌<◌, ◌-◌, ◌^◌, ◌∙◌, sym, arith, length, subst, None}
use Rattle.leaf_bounds.specs.Shelves.{IsSmall}
use Rattle.multiplier_bound.proofs.PriceLemmas.{get_or_any}
use Rattle.leaf_bounds.proofs.shelf.ShelfRow.bound.Goals as goal

pub raised_by-requires-clause-sum : goal.raised_by-requires-clause-sum
raised_by-requires-clause-sum c =
    let inside : c.len-count.result - 1 < length c.sweep_all.new.row.items = omega (arith, c.len-count.ensures) in
    let read = c.index.ensures ∙ get_or_any c.sweep_all.new.row.items (c.len-count.result - 1) None c.index.result.now inside in
    subst (IsSmall (2 ^ 107)) (sym read) (c.sweep_all.ensures.small (c.len-count.result - 1) inside)

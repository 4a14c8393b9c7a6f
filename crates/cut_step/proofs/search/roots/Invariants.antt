use Rattle.std.proofs.Common.{◌≡◌, ◌<◌, ℕ, true}
use Rattle.offer_model.specs.Nodes.{mark_at}
use Rattle.cut_step.specs.Closures.{price_at}
use Rattle.cut_step.specs.Searches.{seen, supply_of, IsSearched, Grown, NoneTakes}
use Rattle.cut_step.specs.Sizes.{FitTogether}
use Rattle.cut_step.proofs.search.roots.Given as goal

abbrev pub invariant-loop-i : goal.invariant-loop-i
invariant-loop-i l = record {
  searched : IsSearched l.rows l.node l.phase l.flow.amounts.items l.flow.excess.items l.reach.spots.items l.reach.tree.items;
  grown : Grown l.fn.reach.spots.items l.fn.reach.tree.items l.reach.spots.items l.reach.tree.items;
  none : NoneTakes l.node l.phase l.flow.excess.items l.reach.tree.items;
  reached : (i : ℕ) → i < l.i → 0 < supply_of l.phase (mark_at l.node i) (price_at l.flow.excess.items i) → seen l.reach.spots.items i ≡ true;
  lists : FitTogether l.rows l.node l.flow l.reach;
}

use Rattle.std.proofs.Common.{◌<◌, ◌≤◌, ℕ}
use Rattle.std.specs.Prelude.{slice_index}
use Rattle.cut_step.specs.Searches.{seen, IsSpent, IsSearched, Grown, NoneTakes}
use Rattle.cut_step.specs.Sizes.{FitTogether}
use Rattle.cut_step.proofs.search.scan.Given as goal

abbrev pub invariant-loop-position : goal.invariant-loop-position
invariant-loop-position l = record {
  searched : IsSearched l.rows l.node l.phase l.flow.amounts.items l.flow.excess.items l.reach.spots.items l.reach.tree.items;
  grown : Grown l.fn.reach.spots.items l.fn.reach.tree.items l.reach.spots.items l.reach.tree.items;
  none : NoneTakes l.node l.phase l.flow.excess.items l.reach.tree.items;
  spent : (q : ℕ) → slice_index l.adjacency.starts.items l.i ≤ q → q < l.position
      → IsSpent l.rows l.flow.amounts.items (seen l.reach.spots.items) l.i (slice_index l.adjacency.rows.items q);
  lists : FitTogether l.rows l.node l.flow l.reach;
}

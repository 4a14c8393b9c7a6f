use Rattle.std.proofs.Common.{◌≡◌, ◌<◌, ◌≤◌, ◌-◌, ℕ, true, length}
use Rattle.offer_model.specs.Nodes.{mark_at}
use Rattle.cut_step.specs.Closures.{price_at}
use Rattle.cut_step.specs.Trees.{product_of}
use Rattle.cut_step.specs.Searches.{seen, supply_of, IsSpent, IsSearched, Grown, NoneTakes}
use Rattle.cut_step.specs.Sizes.{FitTogether}
use Rattle.cut_step.proofs.search.search.Given as goal

abbrev pub invariant-loop-place : goal.invariant-loop-place
invariant-loop-place l = record {
  searched : IsSearched l.rows l.node l.phase l.flow.amounts.items l.flow.excess.items l.reach.spots.items l.reach.tree.items;
  grown : Grown l.fn.reach.spots.items l.fn.reach.tree.items l.reach.spots.items l.reach.tree.items;
  none : NoneTakes l.node l.phase l.flow.excess.items l.reach.tree.items;
  reached : (i : ℕ) → i < length l.fn.reach.spots.items → 0 < supply_of l.phase (mark_at l.node i) (price_at l.flow.excess.items i)
      → seen l.reach.spots.items i ≡ true;
  inside : l.place ≤ length l.reach.tree.items;
  spent : (j : ℕ) → j < l.place → (k : ℕ) → k < length l.rows
      → IsSpent l.rows l.flow.amounts.items (seen l.reach.spots.items) (product_of l.reach.tree.items j) k;
  lists : FitTogether l.rows l.node l.flow l.reach;
}

-- Each entry is scanned once, and the tree has at most one for each product.
abbrev pub decreases-loop-place : goal.decreases-loop-place
decreases-loop-place l = length l.reach.spots.items - l.place

use Rattle.std.proofs.Common.{◌≡◌, ◌<◌, ℕ, length}
use Rattle.std.specs.Prelude.{slice_index, pos, ◌≤ℤ◌}
use Rattle.offer_model.specs.declared.node.Mark.TheVariants.{Open}
use Rattle.offer_model.specs.Nodes.{mark_at}
use Rattle.cut_step.specs.Closures.{price_at}
use Rattle.cut_step.specs.Trees.{product_of, IsTree, Unused}
use Rattle.cut_step.specs.Phases.{IsFlowing}
use Rattle.cut_step.proofs.forced.cover_deficits.Given as goal

abbrev pub invariant-loop-place : goal.invariant-loop-place
invariant-loop-place l = record {
  well : IsTree l.rows (length l.flow.excess.items) l.flow.amounts.items l.tree;
  flowing : IsFlowing l.rows l.node l.fn.flow.excess.items l.flow.excess.items l.flow.amounts.items;
  has : (j : ℕ) → j < l.place → mark_at l.node (product_of l.tree j) ≡ Open → pos 0 ≤ℤ price_at l.flow.excess.items (product_of l.tree j);
  unused : (k : ℕ) → Unused l.tree k → slice_index l.flow.amounts.items k ≡ slice_index l.fn.flow.amounts.items k;
}

use Rattle.std.proofs.Common.{◌≡◌, ℕ, ◌<◌}
use Rattle.std.specs.Prelude.{◌⊎◌, slice_index}
use Rattle.offer_model.specs.declared.node.Mark.TheVariants.{In}
use Rattle.offer_model.specs.Nodes.{mark_at}
use Rattle.offer_model.specs.Problems.{product_at}
use Rattle.offer_model.specs.LeafBounds.{Rises}
use Rattle.table_steps.proofs.ladder_potentials.stands_beside.Given as goal

abbrev pub invariant-loop-j : goal.invariant-loop-j
invariant-loop-j l = (q : ℕ) → q < l.j-index → mark_at l.node (slice_index l.list q) ≡ In
    → Rises (product_at l.p l.i) (product_at l.p (slice_index l.list q)) ⊎ Rises (product_at l.p (slice_index l.list q)) (product_at l.p l.i)

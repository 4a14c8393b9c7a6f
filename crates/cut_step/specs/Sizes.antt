-- The lists that a call works in: their sizes, and what can be carried in them.
use Rattle.std.specs.Prelude.{◌≡◌, ℕ, ◌^◌, ◌≤◌, List, length, slice_index, vec_capacity}
use Rattle.offer_model.specs.declared.node.Mark.{Mark}
use Rattle.cut_step.specs.declared.rows.Row.{Row}
use Rattle.cut_step.specs.declared.flow.Flow.{Flow}
use Rattle.cut_step.specs.declared.reach.Reach.{Reach}
use Rattle.cut_step.specs.declared.reach.Entry.{Entry}
use Rattle.cut_step.specs.Closures.{AreNamed}
use Rattle.cut_step.specs.Flows.{AreWithin}
use Rattle.cut_step.specs.Trees.{IsTree}

-- The rows name products, there are an amount for each row and a price, a mark and a spot for each product, and the tree
-- has room for all products.
pub record FitTogether (rows : List Row) (node : List Mark) (flow : Flow) (reach : Reach) : Type 0 where
  pub names : AreNamed rows (length reach.spots.items)
  pub each : length flow.amounts.items ≡ length rows
  pub marks : length node ≡ length reach.spots.items
  pub excess : length flow.excess.items ≡ length reach.spots.items
  pub room : length reach.spots.items ≤ vec_capacity reach.tree

-- Amounts can be carried down the tree: it is one, the lists have their sizes, and no sum leaves the range of its numbers.
pub record CanPush (rows : List Row) (tree : List Entry) (flow : Flow) : Type 0 where
  pub well : IsTree rows (length flow.excess.items) flow.amounts.items tree
  pub names : AreNamed rows (length flow.excess.items)
  pub each : length flow.amounts.items ≡ length rows
  pub within : AreWithin flow.excess.items (2 ^ 119)
  pub room : (k : ℕ) → slice_index flow.amounts.items k ≤ 2 ^ 109

-- The spaces of products, and the room that a node leaves on a shelf. Own.
use Rattle.std.specs.Prelude.{◌≡◌, ℕ, ◌+◌, ◌<◌, List, length, Option, Some, None, cond, slice_index}
use Rattle.offer_model.specs.declared.node.Mark.{Mark}
use Rattle.offer_model.specs.Assortments.{offers, sum_below}
use Rattle.offer_model.specs.Problems.{ProblemData, product_count}
use Rattle.offer_model.specs.Nodes.{fill_of}
use Rattle.shelf_table.specs.Tables.{space_of}

-- The space that each product takes.
pub record AreSpaces (p : ProblemData) (spaces : List ℕ) : Type 0 where
  pub each : length spaces ≡ product_count p
  pub is : (i : ℕ) → i < product_count p → slice_index spaces i ≡ space_of p i

-- The room that what is In leaves on the shelf. There is none where it doesn't fit.
abbrev pub IsRoomLeft : List ℕ → ℕ → List Mark → Option ℕ → Type 0
IsRoomLeft spaces shelf node (Some room) =
    sum_below (length spaces) (λ i. cond (offers (fill_of node) i) (slice_index spaces i) 0) + room ≡ shelf
IsRoomLeft spaces shelf node None =
    shelf < sum_below (length spaces) (λ i. cond (offers (fill_of node) i) (slice_index spaces i) 0)

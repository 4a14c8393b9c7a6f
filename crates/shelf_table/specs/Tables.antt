-- The best choice of products for a room, and the table of it. The 0/1 knapsack by Bellman's recursion.
use Rattle.std.specs.Prelude.{◌≡◌, ℕ, ◌+◌, ◌-◌, ◌*◌, ◌^◌, ◌≤◌, nat_le, Bool, cond, List, pos, ◌+ℤ◌, ◌<ℤ◌, ◌≤ℤ◌, slice_index_or}
use Rattle.std.specs.Int.{int_max}
use lib.IntN.{ℤ}
use Prim.Native.Nat.{zero, suc}
use Rattle.offer_model.specs.declared.node.Mark.{Mark}
use Rattle.offer_model.specs.declared.node.Mark.TheVariants.{In, Out, Open}
use Rattle.offer_model.specs.Problems.{ProblemData, product_at}
use Rattle.offer_model.specs.Nodes.{mark_at}

-- The space that product i takes.
abbrev pub space_of : ProblemData → ℕ → ℕ
space_of p i = (product_at p i).space

abbrev pub price_in : List ℤ → ℕ → ℤ
price_in prices i = slice_index_or prices i (pos 0)

-- The greater sum: without a product, or with it where it fits.
abbrev pub better_of : Bool → ℤ → ℤ → ℤ
better_of fits without with = cond fits (int_max without with) without

-- The greatest sum of prices of products that fit into this room together, of the m products from k on. It may be of none.
abbrev pub best_of : (ℕ → ℕ) → (ℕ → ℤ) → ℕ → ℕ → ℕ → ℤ
best_of space price zero k room = pos 0
best_of space price (suc m) k room = better_of (nat_le (space k) room)
    (best_of space price m (suc k) room)
    (price k +ℤ best_of space price m (suc k) (room - space k))

-- The same of the products from k on, of n in all.
abbrev pub best_from : (ℕ → ℕ) → (ℕ → ℤ) → ℕ → ℕ → ℕ → ℤ
best_from space price n k room = best_of space price (n - k) k room

-- What taking a product with this mark freely adds: nothing, where the mark has settled it.
abbrev pub free_price : Mark → ℤ → ℤ
free_price In z = pos 0
free_price Out z = pos 0
free_price Open z = z

abbrev pub free_prices : List Mark → (ℕ → ℤ) → ℕ → ℤ
free_prices marks price i = free_price (mark_at marks i) (price i)

-- The size of a price is below 2 ^ 98.
abbrev pub IsSmallPrice : ℤ → Type 0
IsSmallPrice z = (z <ℤ pos (2 ^ 98)) × (pos 0 <ℤ (z +ℤ pos (2 ^ 98)))

-- A sum of prices of products, taken freely. It is never below 0.
abbrev pub IsSum : ℤ → Type 0
IsSum z = (pos 0 ≤ℤ z) × (z <ℤ pos (2 ^ 108))

-- A table for so many products and so much space: for each product a row with a cell for each room, row by row, and a
-- last row for no products.
pub record TableData : Type 0 where
  pub products : ℕ
  pub space : ℕ
  pub cells : List ℤ

abbrev pub cell_at : TableData → ℕ → ℕ → ℤ
cell_at t k room = slice_index_or t.cells (k * (t.space + 1) + room) (pos 0)

-- Each cell is the best of the products from its row on.
abbrev pub IsTableOf : TableData → (ℕ → ℕ) → (ℕ → ℤ) → Type 0
IsTableOf t space price = (k room : ℕ) → k ≤ t.products → room ≤ t.space
    → cell_at t k room ≡ best_from space price t.products k room

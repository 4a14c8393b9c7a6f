-- What is kept from leaf to leaf for the bounds of a problem's leaves. Own.
use Rattle.std.specs.Prelude.{◌≡◌, ℕ, ◌+◌, ◌≤◌, true, length, Option, Some, None}
use Rattle.offer_model.specs.Problems.{ProblemData, product_count}
use Rattle.offer_model.specs.LeafBounds.{shelf_space}
use Rattle.offer_model.specs.declared.ranges.TheConstants.{MOST_PRODUCTS}
use Rattle.shelf_table.specs.Tables.{space_of, price_in, IsTableOf}
use Rattle.shelf_table.specs.Rooms.{AreSpaces}
use Rattle.leaf_bounds.specs.declared.kept_table.KeptTable.{KeptTable}
use Rattle.leaf_bounds.specs.declared.ladders.Ladders.{Ladders}
use Rattle.leaf_bounds.specs.declared.potentials.Potentials.{Potentials}
use Rattle.leaf_bounds.specs.declared.shelf.ShelfRow.{ShelfRow}
use Rattle.leaf_bounds.specs.LadderLists.{HaveLadders}
use Rattle.leaf_bounds.specs.Potentials.{AreLimited}

-- The ladders of all products.
abbrev pub AreLaddersOf : ProblemData → Ladders → Type 0
AreLaddersOf p s = HaveLadders p (product_count p) s.lists.items s.places.items

-- The ladders, the products on limited ones, and a place for each product.
pub record HasSets (p : ProblemData) (s : Potentials) : Type 0 where
  pub ladders : AreLaddersOf p s.ladders
  pub limited : AreLimited p s.limited
  pub usable : length s.usable ≡ product_count p

-- A cell for each amount of space up to the shelf's, none without a shelf.
abbrev pub cells_for : Option ℕ → ℕ
cells_for None = 0
cells_for (Some space) = space + 1

abbrev pub HasCells : ProblemData → ShelfRow → Type 0
HasCells p s = length s.best.items ≡ cells_for (shelf_space p.limits)

-- The shelf's space, 0 without one.
abbrev pub space_for : Option ℕ → ℕ
space_for None = 0
space_for (Some space) = space

-- The kept table is for the problem's products, their spaces and the shelf's. Once it is filled it is that of the kept
-- prices.
pub record HasTable (p : ProblemData) (s : KeptTable) : Type 0 where
  pub spaces : AreSpaces p s.spaces.items
  pub prices : length s.prices.items ≡ product_count p
  pub products : s.table.products ≡ product_count p
  pub few : s.table.products ≤ MOST_PRODUCTS
  pub space : s.table.space ≡ space_for (shelf_space p.limits)
  pub filled : s.filled ≡ true → IsTableOf s.table (space_of p) (price_in s.prices.items)

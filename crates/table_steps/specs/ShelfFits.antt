-- Which problems a step under a shelf fits. Own.
use Rattle.std.specs.Prelude.{◌≡◌, ℕ, List, [], ◌∷◌, length, slice_index}
use lib.IntN.{ℤ}
use Rattle.offer_model.specs.declared.products.Limit.TheVariants.{Shelf}
use Rattle.offer_model.specs.Problems.{ProblemData, product_count}
use Rattle.shelf_table.specs.Tables.{TableData, IsTableOf, price_in}
use Rattle.shelf_table.specs.Rooms.{AreSpaces}

-- The step holds the problem's shelf and spaces, and the table of some prices.
pub record FitsShelf (p : ProblemData) (shelf : ℕ) (spaces : List ℕ) (prices : List ℤ) (t : TableData) : Type 0 where
  pub limit : p.limits ≡ Shelf shelf ∷ []
  pub same_spaces : AreSpaces p spaces
  pub each : length prices ≡ product_count p
  pub products : t.products ≡ product_count p
  pub room : t.space ≡ shelf
  pub table : IsTableOf t (slice_index spaces) (price_in prices)

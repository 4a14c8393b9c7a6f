-- Catalogues that were worked by hand.
use Rattle.std.specs.Prelude.{◌≡◌, [], ◌∷◌, codes}
use Rattle.catalogue_rows.specs.Plain.{plain_rows}
use Rattle.catalogue_rows.specs.PrintedProducts.{products_text}

-- The files of plain catalogues without products, with one and with two.
pub record CataloguesAreWorked : Type 0 where
  pub empty : products_text (plain_rows [])
      ≡ codes "name,margin,attraction,shadow,category,space,price,ladder,grade,arrival\n"
  pub one : products_text (plain_rows (318 ∷ []))
      ≡ codes "name,margin,attraction,shadow,category,space,price,ladder,grade,arrival\np0,318,0,0,,0,0,,0,0\n"
  pub two : products_text (plain_rows (1000 ∷ 7 ∷ []))
      ≡ codes "name,margin,attraction,shadow,category,space,price,ladder,grade,arrival\np0,1000,0,0,,0,0,,0,0\np1,7,0,0,,0,0,,0,0\n"

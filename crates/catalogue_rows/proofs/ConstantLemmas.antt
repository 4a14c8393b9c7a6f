-- The constants of the code are the numbers and the places of the formats.
use Rattle.std.proofs.Common.{◌≡◌, refl}
use Rattle.catalogue_rows.specs.declared.names.TheConstants.{MOST_NAME}
use Rattle.catalogue_rows.specs.declared.products.TheConstants.{MOST_TABLE}
use Rattle.catalogue_rows.specs.declared.product_columns.TheConstants.{NAME, MARGIN, ATTRACTION, SHADOW, CATEGORY, SPACE, PRICE, LADDER, GRADE, ARRIVAL}
use Rattle.catalogue_rows.specs.Sizes.{most_name, most_table}
use Rattle.catalogue_rows.specs.Columns.{name_column, margin_column, attraction_column, shadow_column, category_column, space_column, price_column, ladder_column, grade_column, arrival_column}

-- The longest name.
pub most_name_is : MOST_NAME ≡ most_name
most_name_is = refl

-- The longest table file.
pub most_table_is : MOST_TABLE ≡ most_table
most_table_is = refl

-- The columns of a products file.
pub product_columns_are : (NAME ≡ name_column) × (MARGIN ≡ margin_column) × (ATTRACTION ≡ attraction_column) × (SHADOW ≡ shadow_column) × (CATEGORY ≡ category_column)
    × (SPACE ≡ space_column) × (PRICE ≡ price_column) × (LADDER ≡ ladder_column) × (GRADE ≡ grade_column) × (ARRIVAL ≡ arrival_column)
product_columns_are = (refl, refl, refl, refl, refl, refl, refl, refl, refl, refl)

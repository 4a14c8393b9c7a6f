-- The constants of the code are the places of the formats.
use Rattle.std.proofs.Common.{◌≡◌, refl}
use Rattle.catalogue.specs.declared.limit_columns.TheConstants.{KIND, FIRST, SECOND, NUMBER}
use Rattle.catalogue.specs.declared.segment_columns.TheConstants.{SEGMENT, PRODUCT, SIZE, WEIGHT}
use Rattle.catalogue.specs.Columns.{kind_column, first_column, second_column, number_column, segment_column, product_column, size_column, weight_column}

-- The columns of a limits file.
pub limit_columns_are : (KIND ≡ kind_column) × (FIRST ≡ first_column) × (SECOND ≡ second_column) × (NUMBER ≡ number_column)
limit_columns_are = (refl, refl, refl, refl)

-- The columns of a segments file.
pub segment_columns_are : (SEGMENT ≡ segment_column) × (PRODUCT ≡ product_column) × (SIZE ≡ size_column) × (WEIGHT ≡ weight_column)
segment_columns_are = (refl, refl, refl, refl)

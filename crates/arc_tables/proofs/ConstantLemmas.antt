-- The constants of the code are the places of the formats.
use Rattle.std.proofs.Common.{◌≡◌, refl}
use Rattle.arc_tables.specs.declared.arc_columns.TheConstants.{FROM, TO, PARTS}
use Rattle.arc_tables.specs.ArcTables.{from_column, to_column, parts_column}

-- The columns of an arcs file.
pub arc_columns_are : (FROM ≡ from_column) × (TO ≡ to_column) × (PARTS ≡ parts_column)
arc_columns_are = (refl, refl, refl)

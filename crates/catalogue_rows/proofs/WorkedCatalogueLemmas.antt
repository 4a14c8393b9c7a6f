-- The files that were worked by hand, by computation.
use Rattle.std.proofs.Common.{refl}
use Rattle.std.specs.Fmt.{digits}
use Rattle.csv.specs.Writing.{fields_text, is_blank}
use Rattle.catalogue_rows.specs.WorkedCatalogues.{CataloguesAreWorked}

-- Each of them.
pub catalogues_worked : CataloguesAreWorked
unfolding digits fields_text is_blank
catalogues_worked = record { empty = refl; one = refl; two = refl }

use Rattle.std.proofs.Common.{take}
use Rattle.catalogue_rows.specs.PrintedProducts.{products_text, HasWritten}
use Rattle.catalogue_rows.proofs.printing.print_products.Given as goal

abbrev pub invariant-rows : goal.invariant-rows
invariant-rows l = HasWritten l.writer (products_text (take l.row-index l.c))

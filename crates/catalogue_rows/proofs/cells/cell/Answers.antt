use Rattle.std.proofs.Common.{◌∙◌, ap, refl, Bor, List, ℕ}
use Rattle.catalogue_rows.proofs.CellLemmas.{text_is_read}
use Rattle.catalogue_rows.proofs.cells.cell.Goals as goal

pub returns : goal.returns
returns g c =
    ap (λ (s : Bor (List ℕ)). s.now) c.unwrap_or.ensures
    ∙ text_is_read c.args.table.now c.args.row c.args.c c.field.result _ c.requires.row refl c.field.ensures.value

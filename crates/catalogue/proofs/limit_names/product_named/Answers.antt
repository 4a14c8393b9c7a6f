use Rattle.std.proofs.Common.{◌∙◌, sym}
use Rattle.std.specs.Str.{bytes_eq}
use Rattle.table_reader.proofs.PositionLemmas.{position_in_map}
use Rattle.catalogue_rows.specs.Rows.{RowData}
use Rattle.catalogue.proofs.limit_names.product_named.Goals as goal

pub returns : goal.returns
returns c = c.first_of_name.ensures ∙ sym (position_in_map (λ (row : RowData). row.name) (bytes_eq c.args.text.now) c.args.rows.now)

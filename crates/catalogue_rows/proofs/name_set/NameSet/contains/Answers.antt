use Rattle.std.proofs.Common.{◌∙◌, ap}
use Rattle.table_reader.specs.Tables.{is_among}
use Rattle.catalogue_rows.proofs.LentNameLemmas.{lent_among}
use Rattle.catalogue_rows.proofs.name_set.NameSet.contains.Goals as goal

pub returns : goal.returns
returns c = c.contains.ensures ∙ lent_among c.args.name.now c.self.inside.names.keys ∙ ap (is_among c.args.name.now) c.self.view_is

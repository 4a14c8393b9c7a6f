use Rattle.std.proofs.Common.{◌∙◌, ap}
use Rattle.catalogue_rows.proofs.LentNameLemmas.{lent_names, lent_inserted}
use Rattle.catalogue_rows.proofs.name_set.NameSet.insert.Goals as goal

pub returns : goal.returns
returns c =
    rw (← c.self.view_is) (ap lent_names c.in_ok-insert.ensures.keys ∙ lent_inserted c.args.name c.self.inside.names.keys)

use Rattle.std.proofs.Common.{◌≡◌, ◌++◌, ◌∷◌, [], sym, subst, rules, arith}
use Rattle.catalogue_rows.specs.Rows.{IsCatalogue}
use Rattle.catalogue_rows.proofs.PlainLemmas.{plain_is_catalogue, plain_made, row_more}
use Rattle.catalogue_rows.proofs.plain.plain_catalogue.Goals as goal

pub rows-preserved : goal.rows-preserved
rows-preserved c =
    let pushed : c.push.new.self.items ≡ c.rows.rows.items ++ c.in_ok-plain_row.field-0 ∷ [] = search rules in
    row_more c.args.margins.now.items c.rows.rows.items c.push.new.self.items c.rows.k c.get.result.now c.in_ok-plain_row.field-0
    c.get.ensures c.rows.invariant c.in_ok-plain_row.ensures pushed

pub new-requires : goal.new-requires
new-requires c =
    subst IsCatalogue (sym (plain_made c.args.margins.now.items c.rows.rows.items c.rows.k c.rows.invariant (omega arith)))
    (plain_is_catalogue c.args.margins.now.items c.requires.few c.requires.amounts)

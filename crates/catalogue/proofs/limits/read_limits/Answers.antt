use Rattle.catalogue.proofs.LimitLemmas.{fit_if_read}
use Rattle.catalogue.proofs.limits.read_limits.Goals as goal

pub returns-clause-fits : goal.returns-clause-fits
returns-clause-fits c =
    fit_if_read (λ limits. limits.items) c.read_rows.result c.rows.result.now c.args.c.now c.in-Ok.table c.rows.ensures.value
    c.rows.ensures.valid.numbered c.read_rows.ensures.limits c.read_rows.ensures.sound

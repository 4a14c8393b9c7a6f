use Rattle.assort_core.proofs.TrialLemmas.{may_save}
use Rattle.assort_core.proofs.commands.trial.trial.Goals as goal

pub write_output-requires-clause-may : goal.write_output-requires-clause-may
write_output-requires-clause-may g c =
    may_save c.args.task.now (g.S.Store.view c.args.store.now) c.in_ok-report.field-0.report.items c.in_ok-report.field-0.catalogue.items c.requires
    c.in_ok-report.ensures.alone c.in_ok-report.ensures.report c.in_ok-report.ensures.catalogue

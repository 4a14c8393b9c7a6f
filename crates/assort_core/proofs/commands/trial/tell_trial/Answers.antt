use Rattle.std.proofs.Common.{◌∙◌, ap}
use Rattle.catalogue_rows.specs.PrintedProducts.{products_text}
use Rattle.assort_core.specs.Solutions.{subject_of}
use Rattle.assort_core.proofs.TrialLemmas.{tried, tried_rows}
use Rattle.assort_core.proofs.commands.trial.tell_trial.Goals as goal

pub returns-clause-report : goal.returns-clause-report
returns-clause-report c =
    tried c.args.task.now (subject_of c.args.solved.now) c.seed.result c.count.result c.in_ok-report.report.items c.in_ok-report_trial.field-0.items c.seed.ensures c.count.ensures.value
    c.requires.subject c.in_ok-report.ensures c.in_ok-report_trial.ensures

pub returns-clause-catalogue : goal.returns-clause-catalogue
returns-clause-catalogue c =
    c.in_ok-print_products.ensures.text ∙ ap products_text (c.catalogue.ensures ∙ tried_rows c.args.task.now c.args.solved.now c.requires.subject)

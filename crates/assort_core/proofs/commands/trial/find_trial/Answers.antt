use Rattle.std.proofs.Common.{◌∙◌, sym, subst}
use Rattle.assort_core.specs.declared.subject.Subject.{Subject}
use Rattle.assort_core.specs.Solutions.{HasRows, subject_of}
use Rattle.assort_core.proofs.TrialLemmas.{subject_tried}
use Rattle.assort_core.proofs.commands.trial.find_trial.Goals as goal

pub tell_trial-requires-clause-subject : goal.tell_trial-requires-clause-subject
tell_trial-requires-clause-subject g c =
    subject_tried c.args.task.now (subject_of c.in_ok-solved.solved) c.seed-seed.result c.count-count.result c.seed-seed.ensures c.count-count.ensures.value
    (c.in_ok-solved.ensures.subject ∙ c.in_ok-subject.ensures.subject)

pub tell_trial-requires-clause-rows : goal.tell_trial-requires-clause-rows
tell_trial-requires-clause-rows g c = subst (λ (s : Subject). HasRows s) (sym c.in_ok-solved.ensures.subject) c.in_ok-subject.ensures.rows

use Rattle.std.proofs.Common.{arith}
use Rattle.assort_core.proofs.TrialLemmas.{margins_small, margins_few, trial_has_rows}
use Rattle.assort_core.proofs.commands.trial.trial_subject.Goals as goal

pub plain_catalogue-requires-clause-few : goal.plain_catalogue-requires-clause-few
plain_catalogue-requires-clause-few c =
    let many = margins_few c.args.seed c.args.count in
    rw c.in_ok-margins.ensures (omega (arith, many, c.requires))

pub plain_catalogue-requires-clause-amounts : goal.plain_catalogue-requires-clause-amounts
plain_catalogue-requires-clause-amounts c = rw c.in_ok-margins.ensures (margins_small c.args.seed c.args.count)

pub returns-clause-rows : goal.returns-clause-rows
returns-clause-rows c =
    rw (c.in_ok-catalogue.ensures, c.in_ok-margins.ensures, c.in_ok-problem.ensures) (trial_has_rows c.args.seed c.args.count)

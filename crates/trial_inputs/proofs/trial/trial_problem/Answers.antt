use Rattle.std.proofs.Common.{sym, subst, ◌∙◌}
use Rattle.offer_model.specs.Validity.{IsProblem}
use Rattle.trial_inputs.proofs.TrialLemmas.{problem_drawn, trial_valid}
use Rattle.trial_inputs.proofs.trial.trial_problem.Goals as goal

pub new-requires : goal.new-requires
new-requires c = subst IsProblem
    (sym (problem_drawn c.args.seed c.seed_from_u64-rng.result c.draw_margins.new.rng c.args.count c.in_ok-margins.margins.items c.in_ok-products.products.items
    c.in_ok-segments.segments.items c.in_ok-limits.limits.items c.seed_from_u64-rng.ensures.same c.in_ok-margins.ensures.margins c.in_ok-margins.ensures.state
    c.in_ok-products.ensures c.in_ok-segments.ensures c.in_ok-limits.ensures))
    (trial_valid c.args.seed c.args.count c.requires)

pub returns : goal.returns
returns c = c.new.ensures
    ∙ problem_drawn c.args.seed c.seed_from_u64-rng.result c.draw_margins.new.rng c.args.count c.in_ok-margins.margins.items c.in_ok-products.products.items
    c.in_ok-segments.segments.items c.in_ok-limits.limits.items c.seed_from_u64-rng.ensures.same c.in_ok-margins.ensures.margins c.in_ok-margins.ensures.state
    c.in_ok-products.ensures c.in_ok-segments.ensures c.in_ok-limits.ensures

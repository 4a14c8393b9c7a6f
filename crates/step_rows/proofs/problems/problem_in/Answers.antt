use Rattle.offer_model.specs.declared.products.ModelName.TheVariants.{Logit}
use Rattle.step_rows.proofs.problems.problem_in.Goals as goal

pub problem_of-requires-clause-limits : goal.problem_of-requires-clause-limits
problem_of-requires-clause-limits g c = c.in-Ok.ensures.fits Logit c.args.none 1 c.empty-segments.result

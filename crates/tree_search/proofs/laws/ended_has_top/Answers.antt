use Rattle.tree_search.proofs.CoveredLemmas.{runs_covered}
use Rattle.tree_search.proofs.EndedLemmas.{ended_has_top}
use Rattle.tree_search.proofs.laws.ended_has_top.Goals as goal

pub returns : goal.returns
returns g c = λ workers events world zero runs end.
    ended_has_top (g.T.Goal.rules c.args.goal.now) zero world end (runs_covered (g.T.Goal.rules c.args.goal.now) (g.met.T.Goal.lawful c.args.goal.now) workers events world runs)

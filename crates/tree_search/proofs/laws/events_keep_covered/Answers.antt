use Rattle.tree_search.proofs.CoveredLemmas.{start_covered, happens_keeps}
use Rattle.tree_search.proofs.laws.events_keep_covered.Goals as goal

pub returns-clause-start : goal.returns-clause-start
returns-clause-start g c = λ workers. start_covered (g.T.Goal.rules c.args.goal.now) workers

pub returns-clause-each : goal.returns-clause-each
returns-clause-each g c = λ event before after of cov happens.
    happens_keeps (g.T.Goal.rules c.args.goal.now) (g.met.T.Goal.lawful c.args.goal.now) event before after happens of cov

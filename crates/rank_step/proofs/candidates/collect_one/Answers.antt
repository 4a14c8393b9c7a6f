use Rattle.std.proofs.Common.{refl, rules}
use Rattle.linear_step.specs.Weights.{weight_at}
use Rattle.rank_step.proofs.CandidateLemmas.{collects_more}
use Rattle.rank_step.proofs.candidates.collect_one.Goals as goal

pub returns-then-weight-gt0-clause-candidates : goal.returns-then-weight-gt0-clause-candidates
returns-then-weight-gt0-clause-candidates c = rw c.push_reserved.ensures.items
    (collects_more c.args.p.now c.args.node.now (weight_at c.args.weights.now) c.args.i c.args.list.now.items _ refl
    (record { inside = c.requires.product; is_open = search rules; is = search rules; some = search rules; small = search rules }) c.requires.before)

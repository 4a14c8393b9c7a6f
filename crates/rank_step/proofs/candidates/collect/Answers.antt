use Rattle.std.proofs.Common.{rules}
use Rattle.std.proofs.lemmas.List.Sorted.{IsNonDecreasingBy-from_sort_by_key}
use Rattle.linear_step.specs.Weights.{weight_at}
use Rattle.rank_step.specs.declared.candidates.Candidate.{Candidate}
use Rattle.rank_step.proofs.CandidateLemmas.{candidates_sorted}
use Rattle.rank_step.proofs.candidates.collect.Goals as goal

pub returns-clause-candidates : goal.returns-clause-candidates
returns-clause-candidates c = candidates_sorted c.args.p.now c.args.node.now (weight_at c.args.weights.now) c.loop-i.list.items
    c.sort_unstable_by_key.new.self.items c.loop-i.i (search rules) c.loop-i.invariant.candidates c.sort_unstable_by_key.ensures.permutation
    (IsNonDecreasingBy-from_sort_by_key (λ (d : Candidate). d.weight) _ c.sort_unstable_by_key.ensures.sorted (λ a r q k. search rules))

use Rattle.std.proofs.Common.{refl, rules}
use Rattle.std.proofs.lemmas.List.Sorted.{IsNonDecreasingBy-from_sort_by_key}
use Rattle.offer_model.specs.Problems.{product_count, product_at}
use Rattle.table_steps.proofs.LadderRungLemmas.{rungs_sorted}
use Rattle.table_steps.proofs.ladder_rungs.Rungs.of.Goals as goal

pub returns-clause-rungs : goal.returns-clause-rungs
returns-clause-rungs c = rungs_sorted c.args.p.now c.args.ladder (product_count c.args.p.now) c.in_ok-products.products.items
    c.sort_unstable_by_key.new.self.items refl c.in_ok-products.ensures c.sort_unstable_by_key.ensures.permutation
    (IsNonDecreasingBy-from_sort_by_key (λ i. (product_at c.args.p.now i).grade) _ c.sort_unstable_by_key.ensures.sorted (λ a r q k. search rules))

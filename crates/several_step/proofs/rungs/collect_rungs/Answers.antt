use Rattle.offer_model.specs.Problems.{product_count}
use Rattle.several_step.proofs.RungLemmas.{rungs_sorted}
use Rattle.several_step.proofs.rungs.collect_rungs.Goals as goal

pub returns : goal.returns
returns c = rungs_sorted c.args.p.now (product_count c.args.p.now) c.in_ok-rungs.rungs.items c.sort_unstable_by_key.new.self.items c.list_rungs.new.limited.items
    c.in_ok-rungs.ensures c.sort_unstable_by_key.ensures.permutation

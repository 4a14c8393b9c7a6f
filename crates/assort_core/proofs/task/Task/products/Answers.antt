use Rattle.std.proofs.Common.{subst}
use Rattle.assort_words.specs.Asked.{IsComplete, asked_products}
use Rattle.assort_core.proofs.TaskLemmas.{chain_products, copied_some}
use Rattle.assort_core.proofs.task.Task.products.Goals as goal

pub unwrap-requires : goal.unwrap-requires
unwrap-requires c =
    copied_some c.products.result (asked_products c.args.self.now) (rw c.self.view_is at c.products.ensures)
    (chain_products c.args.self.now (subst IsComplete c.self.view_is c.self.invariant) c.requires)

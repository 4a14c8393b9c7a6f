use Rattle.offer_model.specs.Problems.{product_count}
use Rattle.linear_step.specs.Weights.{weight_at}
use Rattle.shelf_table.specs.Tables.{space_of}
use Rattle.table_steps.specs.ShelfReading.{best_sum, IsRead}
use Rattle.table_steps.proofs.shelf.ShelfStep.choose.Given as goal

abbrev pub invariant-loop-k : goal.invariant-loop-k
invariant-loop-k l = IsRead (space_of l.p) (product_count l.p) l.node (weight_at l.weights) l.self.shelf
    (best_sum (space_of l.p) (product_count l.p) l.node (weight_at l.weights) l.fn.room) l.k l.x l.room

use Rattle.cut_step.specs.Adjacencies.{AddsRows}
use Rattle.cut_step.proofs.adjacency.add_rows.Given as goal

abbrev pub invariant-loop-k : goal.invariant-loop-k
invariant-loop-k l = AddsRows l.rows l.i l.k l.fn.listed.items l.listed.items

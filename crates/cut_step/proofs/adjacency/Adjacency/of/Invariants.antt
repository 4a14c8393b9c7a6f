use Rattle.cut_step.specs.Adjacencies.{AreListed}
use Rattle.cut_step.proofs.adjacency.Adjacency.of.Given as goal

abbrev pub invariant-loop-i : goal.invariant-loop-i
invariant-loop-i l = AreListed l.rows l.i l.listed.items l.starts.items

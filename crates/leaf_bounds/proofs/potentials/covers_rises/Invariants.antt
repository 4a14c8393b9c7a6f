use Rattle.std.proofs.Common.{ℕ, ◌<◌}
use Rattle.std.specs.Prelude.{slice_index}
use Rattle.linear_step.specs.Weights.{weight_at}
use Rattle.leaf_bounds.specs.Potentials.{IsRise, Covers}
use Rattle.leaf_bounds.proofs.potentials.covers_rises.Given as goal

abbrev pub invariant-loop-j : goal.invariant-loop-j
invariant-loop-j l = (q : ℕ) → q < l.j-index → IsRise l.p l.usable l.i (slice_index l.ladder q)
    → Covers (weight_at l.weights) l.numbers.items l.i (slice_index l.ladder q)

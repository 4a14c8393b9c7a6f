use Rattle.std.proofs.Common.{ℕ, ◌<◌}
use Rattle.std.specs.Prelude.{slice_index}
use Rattle.offer_model.specs.Problems.{product_at}
use Rattle.offer_model.specs.Limits.{MayStand}
use Rattle.leaf_bounds.specs.Potentials.{IsBeside}
use Rattle.leaf_bounds.proofs.potentials.fits_beside.Given as goal

abbrev pub invariant-loop-j : goal.invariant-loop-j
invariant-loop-j l = (q : ℕ) → q < l.j-index → IsBeside l.p l.node l.i (slice_index l.ladder q)
    → MayStand (product_at l.p l.i) (product_at l.p (slice_index l.ladder q)) × MayStand (product_at l.p (slice_index l.ladder q)) (product_at l.p l.i)

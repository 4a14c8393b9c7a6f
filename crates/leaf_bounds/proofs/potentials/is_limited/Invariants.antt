use Rattle.std.proofs.Common.{◌≡◌, drop}
use Rattle.offer_model.specs.LeafBounds.{is_limited}
use Rattle.leaf_bounds.proofs.potentials.is_limited.Given as goal

abbrev pub invariant-loop-k : goal.invariant-loop-k
invariant-loop-k l = is_limited l.p.limits l.ladder ≡ is_limited (drop l.k l.p.limits) l.ladder

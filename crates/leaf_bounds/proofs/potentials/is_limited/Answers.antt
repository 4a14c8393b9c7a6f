use Rattle.std.proofs.Common.{◌≡◌, subst, Some, false, true, Bool}
use Rattle.std.specs.Prelude.{slice_get}
use Rattle.leaf_bounds.proofs.LadderLemmas.{limited_here, limited_past}
use Rattle.leaf_bounds.proofs.potentials.is_limited.Goals as goal

pub returns-then-limits_ladder : goal.returns-then-limits_ladder
returns-then-limits_ladder c = limited_here c.args.p.now.limits c.loop-k.k c.get.result.now c.args.ladder
    (subst (λ z. slice_get z c.loop-k.k ≡ Some c.get.result.now) c.limits-in-loop-k.ensures.value c.get.ensures)
    (c.limits_ladder.ensures.0 c.if-limits_ladder.true) c.loop-k.invariant

pub loop-k-preserved : goal.loop-k-preserved
loop-k-preserved c = limited_past c.args.p.now.limits c.loop-k.k c.get.result.now c.args.ladder
    (subst (λ z. slice_get z c.loop-k.k ≡ Some c.get.result.now) c.limits-in-loop-k.ensures.value c.get.ensures)
    (λ e. untrue c.limits_ladder.result c.if-limits_ladder.false (c.limits_ladder.ensures.1 e)) c.loop-k.invariant
  where
    untrue : (b : Bool) → b ≡ false → b ≡ true → ⊥
    untrue b e t = cc

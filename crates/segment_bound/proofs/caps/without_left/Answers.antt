use Rattle.std.proofs.Common.{◌-◌, ◌<◌, length, arith}
use Rattle.std.proofs.lemmas.Option.{get_or_from_slice_get}
use Rattle.segment_bound.specs.Tangents.{left_out}
use Rattle.segment_bound.proofs.CapLemmas.{left_next}
use Rattle.segment_bound.proofs.caps.without_left.Goals as goal

pub loop-k-preserved : goal.loop-k-preserved
loop-k-preserved c =
    let inside : c.loop-k.k < length c.args.limits.now.items = omega arith in
    rw c.saturating_sub-most.ensures
    (left_next c.args.p.now c.args.limits.now.items c.loop-k.k c.loop-k.most c.left_by.result (c.args.n - left_out c.args.p.now c.args.limits.now.items) c.get.result.now c.requires.once inside
    (get_or_from_slice_get c.args.limits.now.items c.loop-k.k c.get.result.now c.get.result.now c.get.ensures) c.left_by.ensures c.loop-k.invariant)

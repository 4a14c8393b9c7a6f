use Rattle.std.proofs.Common.{rules, ◌≡◌, ℕ, ◌≤◌, ◌∙◌, min, sym, refl, arith}
use Rattle.segment_bound.specs.Orders.{IsOrder}
use Rattle.segment_bound.specs.MixedGoals.{greatest_sum}
use Rattle.segment_bound.specs.Tangents.{tangent_bound}
use Rattle.segment_bound.proofs.OrderLemmas.{length-order}
use Rattle.segment_bound.proofs.GreatestLemmas.{values_sum, greatest_sum-most}
use Rattle.segment_bound.proofs.bounds.Bounds.lesser.Goals as goal

pub follow-requires-clause-node : goal.follow-requires-clause-node
follow-requires-clause-node c =
    let o : IsOrder c.args.p.now c.deref.result.now = search rules in
    c.requires.node ∙ sym (length-order c.args.p.now c.deref.result.now o)

pub sum_of-requires : goal.sum_of-requires
sum_of-requires c =
    let s = values_sum c.args.p.now c.args.node.now c.greatest_each.new.out c.greatest_each.ensures.values in
    let m = greatest_sum-most c.args.p.now c.args.node.now c.requires.fits.valid in
    omega (arith, s, m)

pub returns-then-are_reached-clause-bound : goal.returns-then-are_reached-clause-bound
returns-then-are_reached-clause-bound c =
    let s = values_sum c.args.p.now c.args.node.now c.greatest_each.new.out c.greatest_each.ensures.values in
    first c.from-apart.result (greatest_sum c.args.p.now c.args.node.now) (tangent_bound c.args.p.now c.args.node.now) (c.from-apart.ensures ∙ (c.sum_of.ensures ∙ s)) (c.if-are_reached.ensures.below refl)
  where
    first : (a x y : ℕ) → a ≡ x → x ≤ y → a ≡ min x y
    first a x y e l = omega (arith, e, l)

pub returns-clause-bound : goal.returns-clause-bound
returns-clause-bound c =
    let s = values_sum c.args.p.now c.args.node.now c.greatest_each.new.out c.greatest_each.ensures.values in
    least c.min.result c.from-apart.result c.tangent-together.result (greatest_sum c.args.p.now c.args.node.now) (tangent_bound c.args.p.now c.args.node.now)
    c.min.ensures (c.from-apart.ensures ∙ (c.sum_of.ensures ∙ s)) c.tangent-together.ensures.value
  where
    least : (r a b x y : ℕ) → r ≡ min a b → a ≡ x → b ≡ y → r ≡ min x y
    least r a b x y e f g = rw (e, f, g) refl

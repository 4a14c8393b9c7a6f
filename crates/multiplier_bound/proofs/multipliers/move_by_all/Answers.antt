use Rattle.std.proofs.Common.{sym, subst, arith}
use Rattle.std.specs.Prelude.{slice_index}
use Rattle.offer_model.specs.Validity.{IsInRange, NamesExisting}
use Rattle.offer_model.specs.LeafBounds.{priced_limit_at, IsMultiplier}
use Rattle.linear_weights.specs.Weights.{prices_of}
use Rattle.multiplier_bound.specs.Pricing.{IsMoved}
use Rattle.multiplier_bound.proofs.RelaxLemmas.{limit_is, named_is, range_is, relaxed_small, constant_small, relaxed_more}
use Rattle.multiplier_bound.proofs.multipliers.move_by_all.Goals as goal

pub move_by-requires-clause-named : goal.move_by-requires-clause-named
move_by-requires-clause-named c =
    let e = limit_is c.args.p.now c.args.priced.now.items c.loop-k.k c.get.result.now c.requires.priced c.get.ensures in
    subst (NamesExisting c.args.p.now) e (named_is c.args.p.now c.args.numbers.now.items c.loop-k.k c.requires.fit (omega arith))

pub move_by-requires-clause-range : goal.move_by-requires-clause-range
move_by-requires-clause-range c =
    let e = limit_is c.args.p.now c.args.priced.now.items c.loop-k.k c.get.result.now c.requires.priced c.get.ensures in
    subst IsInRange e (range_is c.args.p.now c.args.numbers.now.items c.loop-k.k c.requires.fit (omega arith))

pub move_by-requires-clause-fits : goal.move_by-requires-clause-fits
move_by-requires-clause-fits c =
    let e = limit_is c.args.p.now c.args.priced.now.items c.loop-k.k c.get.result.now c.requires.priced c.get.ensures in
    subst (λ z. IsMultiplier z c.number_at.result) e
    (subst (IsMultiplier (priced_limit_at c.args.p.now c.loop-k.k)) (sym c.number_at.ensures.value) (c.requires.fit.fit.small c.loop-k.k (omega arith)))

pub move_by-requires-clause-small : goal.move_by-requires-clause-small
move_by-requires-clause-small c =
    λ i l. relaxed_small c.args.p.now c.args.numbers.now.items c.args.weights.now c.loop-k.list c.loop-k.k i c.requires.fit c.requires.weights (omega arith) c.loop-k.invariant l

pub move_by-requires-clause-constant : goal.move_by-requires-clause-constant
move_by-requires-clause-constant c =
    constant_small c.args.p.now c.args.numbers.now.items c.args.weights.now c.loop-k.list c.loop-k.k c.requires.fit c.requires.weights (omega arith) c.loop-k.invariant

pub loop-k-preserved : goal.loop-k-preserved
loop-k-preserved c =
    let e = limit_is c.args.p.now c.args.priced.now.items c.loop-k.k c.get.result.now c.requires.priced c.get.ensures in
    let moved = subst (λ z. IsMoved c.args.p.now z (slice_index c.args.numbers.now.items c.loop-k.k) (prices_of c.loop-k.list) c.move_by.new.list) (sym e)
    (subst (λ u. IsMoved c.args.p.now c.get.result.now u (prices_of c.loop-k.list) c.move_by.new.list) c.number_at.ensures.value c.move_by.ensures) in
    relaxed_more c.args.p.now c.args.numbers.now.items (prices_of c.args.weights.now) c.loop-k.list c.move_by.new.list c.loop-k.k c.loop-k.invariant moved

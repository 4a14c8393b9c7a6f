use Rattle.std.proofs.Common.{rules, ◌≡◌, subst, sym}
use Rattle.std.specs.Prelude.{ℤ}
use Rattle.std.proofs.lemmas.Int.{to_z-of_z}
use mir.Syntax.{w128}
use mir.Val.{SFits, to_z, of_z}
use Rattle.several_step.specs.Scales.{AreScaled}
use Rattle.several_step.proofs.ScaleLemmas.{scaled_found}
use Rattle.several_step.proofs.step.SearchStep.answer.Goals as goal

pub returns-clause-answer : goal.returns-clause-answer
returns-clause-answer g c =
    let e = c.scale_up-raised.ensures in
    let fits : SFits w128 c.scale_up-raised.result = search rules in
    let raised : ℤ = to_z w128 (of_z w128 c.scale_up-raised.result) in
    let by_floor = subst (λ (z : ℤ). AreScaled c.args.p.now c.args.weights.now z c.scale_up-raised.new.scaled c.scale_up-raised.result)
    (to_z-of_z w128 c.args.floor c.ranges.floor) e.scaled in
    let scaled = subst (λ (z : ℤ). AreScaled c.args.p.now c.args.weights.now c.args.floor c.scale_up-raised.new.scaled z)
    (sym (to_z-of_z w128 c.scale_up-raised.result fits)) by_floor in
    scaled_found c.args.p.now c.args.weights.now c.scale_up-raised.new.scaled c.args.floor raised
    c.requires.fits.searching.bounding.valid c.requires.weights e.weights scaled c.args.node.now _ c.search.ensures.answer

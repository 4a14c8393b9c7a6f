use Rattle.std.proofs.Common.{rules}
use mir.Val.{SFits}
use mir.Syntax.{w128}
use Rattle.std.proofs.lemmas.Int.{to_z-of_z}
use Rattle.linear_step.proofs.SizeLemmas.{IsWithin-price}
use Rattle.linear_step.proofs.pricing.price.Goals as goal

pub returns-clause-small : goal.returns-clause-small
returns-clause-small c =
    let fits : SFits w128 c.difference.result = search rules in
    rw (to_z-of_z w128 c.difference.result fits, c.difference.ensures)
    (IsWithin-price c.args.num c.args.den c.product_gain.result c.attraction.result c.shadow.result
    c.requires.num c.requires.den c.product_gain.ensures.bound c.attraction.ensures.bound (search rules))

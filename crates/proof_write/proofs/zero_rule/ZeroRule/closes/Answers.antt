use mir.Syntax.{w128}
use mir.Val.{SFits}
use Rattle.std.proofs.Common.{◌↔◌, IsTrue, subst, rules}
use Rattle.std.proofs.lemmas.Int.{to_z-of_z}
use Rattle.proof_lines.specs.declared.line.Shape.TheVariants as S
use Rattle.proof_lines.specs.Closing.{Closes}
use Rattle.proof_write.specs.Searches.{SearchData}
use Rattle.proof_write.specs.ZeroRules.{zeros_of}
use Rattle.proof_write.proofs.ZeroLemmas.{relaxed_close}
use Rattle.proof_write.proofs.zero_rule.ZeroRule.closes.Goals as goal

pub returns : goal.returns
returns c =
    let p = c.self.inside.problem.now in
    let x = c.self.inside.best.now in
    let fits : SFits w128 c.greatest-bound.result = search rules in
    let same = to_z-of_z w128 c.greatest-bound.result fits in
    let by_bound = relaxed_close p x c.args.node.now c.self.inside.prices c.greatest-bound.result c.self.invariant.model c.self.invariant.prices_are c.greatest-bound.ensures in
    let own = rw same at c.bound_closes.ensures in
    subst (λ (z : SearchData). IsTrue c.bound_closes.result ↔ Closes z.problem z.best c.args.node.now S.Multipliers (zeros_of z.problem)) c.self.view_is
    (λ t. by_bound.1 (own.0 t), λ h. own.1 (by_bound.0 h))

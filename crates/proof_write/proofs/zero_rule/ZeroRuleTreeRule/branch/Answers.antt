use Rattle.std.proofs.Common.{◌≢◌, ◌<◌, ◌∙◌, ℕ, List, ap, sym, subst, length}
use Rattle.std.specs.Prelude.{IfNone}
use Rattle.offer_model.specs.declared.node.Mark.TheVariants.{Open}
use Rattle.offer_model.specs.Nodes.{mark_at}
use Rattle.offer_model.specs.Problems.{product_count}
use Rattle.proof_lines.specs.Writing.{ratio_rule}
use Rattle.proof_tree.specs.SearchRules.{SearchLeaf}
use Rattle.proof_write.specs.Searches.{SearchData}
use Rattle.proof_write.proofs.SearchLemmas.{some_open}
use Rattle.proof_write.proofs.ZeroRuleLemmas.{zero_rule_definite}
use Rattle.proof_write.proofs.zero_rule.ZeroRuleTreeRule.branch.Goals as goal

pub unreachable-requires : goal.unreachable-requires
unreachable-requires c =
    let p = c.self.inside.problem.now in
    let x = c.self.inside.best.now in
    some_open p x (ratio_rule p) c.args.node.now (zero_rule_definite p x c.self.invariant.valid c.self.invariant.model c.self.invariant.best)
    (c.requires.each ∙ ap (λ (z : SearchData). product_count z.problem) (sym c.self.view_is))
    (subst (λ (z : SearchData). (l : List ℕ) → SearchLeaf z.problem z.best (ratio_rule z.problem) c.args.node.now l → ⊥) (sym c.self.view_is) c.requires.none)
    (subst (λ o. IfNone o ((k : ℕ) → k < length c.args.node.now → mark_at c.args.node.now k ≢ Open)) c.in-None.is c.first_open.ensures.none)

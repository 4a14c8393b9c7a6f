use Rattle.std.proofs.Common.{◌∙◌, ℕ, List, ap, sym, subst}
use Rattle.offer_model.specs.Problems.{product_count}
use Rattle.proof_lines.specs.Writing.{mixed_rule}
use Rattle.proof_tree.specs.SearchRules.{SearchLeaf}
use Rattle.segment_bound.specs.Orders.{IsDearest}
use Rattle.proof_write.specs.Searches.{SearchData}
use Rattle.proof_write.proofs.SearchLemmas.{some_open}
use Rattle.proof_write.proofs.MixedRuleLemmas.{mixed_rule_definite, none_dearest}
use Rattle.proof_write.proofs.mixed_rule.MixedRuleTreeRule.branch.Goals as goal

pub unreachable-requires : goal.unreachable-requires
unreachable-requires c =
    let p = c.self.inside.problem.now in
    let x = c.self.inside.best.now in
    some_open p x (mixed_rule p) c.args.node.now (mixed_rule_definite p x c.self.invariant.valid c.self.invariant.model c.self.invariant.best)
    (c.requires.each ∙ ap (λ (z : SearchData). product_count z.problem) (sym c.self.view_is))
    (subst (λ (z : SearchData). (l : List ℕ) → SearchLeaf z.problem z.best (mixed_rule z.problem) c.args.node.now l → ⊥) (sym c.self.view_is) c.requires.none)
    (none_dearest p c.args.node.now (subst (λ o. IsDearest p c.args.node.now o) c.in-None.is c.dearest_open.ensures.dearest))

use Rattle.std.proofs.Common.{◌≡◌, ◌∙◌, ap, sym, None, Some, rules, below_more}
use Rattle.std.proofs.lemmas.Option.{get_or_from_slice_get}
use Rattle.offer_model.specs.declared.products.Limit.TheVariants.{Total}
use Rattle.limit_rules.specs.Broken.{limit_at}
use Rattle.several_step.specs.Opens.{forced_by}
use Rattle.several_step.proofs.OpenLemmas.{forced_is, forced_none}
use Rattle.several_step.proofs.branching.first_forced.Goals as goal

pub returns-in-Some : goal.returns-in-Some
returns-in-Some c =
    let same : limit_at c.args.p.now c.loop-k.k ≡ c.get.result.now = get_or_from_slice_get c.args.p.now.limits c.loop-k.k _ (Total 0) (search rules) in
    let forced : Some c.in-Some.i ≡ forced_by c.args.node.now c.get.result.now = search rules in
    sym (forced_is c.args.p.now.limits c.args.node.now c.loop-k.k c.in-Some.i (Total 0) (search rules) (λ j l. c.loop-k.invariant j l)
    (ap (forced_by c.args.node.now) same ∙ sym forced))

pub loop-k-preserved : goal.loop-k-preserved
loop-k-preserved c =
    let same : limit_at c.args.p.now c.loop-k.k ≡ c.get.result.now = get_or_from_slice_get c.args.p.now.limits c.loop-k.k _ (Total 0) (search rules) in
    let none : forced_by c.args.node.now c.get.result.now ≡ None = search rules in
    below_more (λ j. forced_by c.args.node.now (limit_at c.args.p.now j) ≡ None) c.loop-k.k c.loop-k.invariant
    (ap (forced_by c.args.node.now) same ∙ none)

pub returns : goal.returns
returns c = sym (forced_none c.args.p.now.limits c.args.node.now (Total 0) (λ j l. c.loop-k.invariant j (search rules)))

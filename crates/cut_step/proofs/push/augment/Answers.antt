use Rattle.std.proofs.Common.{◌<◌, ◌≤◌, ℕ, subst}
use Rattle.cut_step.proofs.FundedLemmas.{augmented_some}
use Rattle.cut_step.proofs.push.augment.Goals as goal

pub returns-clause-augmented : goal.returns-clause-augmented
returns-clause-augmented c = λ w g.
    augmented_some c.args.rows.now c.args.node.now w c.args.flow.now.excess.items c.push.new.flow.excess.items c.args.flow.now.amounts.items
    c.push.new.flow.amounts.items c.args.tree.now c.args.place c.push.result c.portion.result c.requires.push.well c.requires.roots c.requires.place
    c.requires.takes c.portion.ensures.some c.portion.ensures.cap
    (subst (λ (x : ℕ). 0 < x → c.portion.result ≤ x) c.deficit_at-need.ensures c.portion.ensures.need) c.push.ensures.root c.push.ensures.pushed g

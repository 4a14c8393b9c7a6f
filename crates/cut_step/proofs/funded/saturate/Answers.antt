use Rattle.std.proofs.Common.{◌∙◌, ◌<◌, ◌≤◌, ℕ, arith, sym, subst}
use Rattle.cut_step.proofs.SaturationLemmas.{saturated_some}
use Rattle.cut_step.proofs.funded.saturate.Goals as goal

pub returns-clause-underway : goal.returns-clause-underway
returns-clause-underway c = λ w g.
    let some : 0 < c.deficit_at-need.result = omega (arith, c.if-need-eq0.false) in
    let most = c.portion-d.ensures.need some in
    saturated_some c.args.rows.now c.args.node.now w c.args.flow.now.excess.items c.carry_over.new.self.excess.items c.args.flow.now.amounts.items
    c.carry_over.new.self.amounts.items c.args.spots.now c.args.k c.portion-d.result c.requires.row c.requires.names
    (sym c.is_seen.ensures ∙ c.if-is_seen.false) (sym c.is_seen-else-is_seen.ensures ∙ c.if-is_seen-2.false) c.portion-d.ensures.some
    (subst (λ (x : ℕ). c.portion-d.result ≤ x) c.supply_at-has.ensures c.portion-d.ensures.cap) (subst (λ (x : ℕ). c.portion-d.result ≤ x) c.deficit_at-need.ensures most) c.carry_over.ensures.amount c.carry_over.ensures.carried
    g.flowing g.keeping

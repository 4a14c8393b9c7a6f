use Rattle.std.proofs.Common.{rules, ◌<◌, ◌∙◌, get_or, sym, subst, ℕ}
use Rattle.segment_bound.specs.Orders.{IsOrder, IsDearest}
use Rattle.segment_bound.proofs.OrderLemmas.{order_listed}
use Rattle.segment_bound.proofs.DearestLemmas.{first_is_dearest, dearest_is}
use Rattle.segment_bound.proofs.bounds.Bounds.dearest_open.Goals as goal

pub first_open-requires : goal.first_open-requires
first_open-requires c =
    let o : IsOrder c.args.p.now c.deref.result.now = search rules in
    record { inside = λ k d l. subst (λ (n : ℕ). (get_or c.deref.result.now k d).product < n) (sym c.requires.node) (order_listed c.args.p.now c.deref.result.now c.requires.fits.valid o k d l).0 }

pub returns-clause-number : goal.returns-clause-number
returns-clause-number c =
    let o : IsOrder c.args.p.now c.deref.result.now = search rules in
    c.first_open.ensures ∙ first_is_dearest c.args.p.now c.args.node.now c.deref.result.now o

pub returns-clause-dearest : goal.returns-clause-dearest
returns-clause-dearest c =
    let o : IsOrder c.args.p.now c.deref.result.now = search rules in
    let same = c.first_open.ensures ∙ first_is_dearest c.args.p.now c.args.node.now c.deref.result.now o in
    subst (IsDearest c.args.p.now c.args.node.now) (sym same) (dearest_is c.args.p.now c.args.node.now c.requires.node)

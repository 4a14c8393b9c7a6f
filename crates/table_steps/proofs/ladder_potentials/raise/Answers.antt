use Rattle.std.proofs.Common.{◌≡◌, ◌∙◌, ◌<◌, ◌-◌, ◌*◌, ap, arith, rules, length, slice_index}
use Rattle.std.proofs.lemmas.List.{length-set, get_or-set_other}
use Rattle.linear_step.specs.Weights.{weight_at, price_bound}
use Rattle.offer_model.specs.LeafBounds.{ladder_of}
use Rattle.table_steps.proofs.LadderPotentialLemmas.{raised_more, small_more, raised_end}
use Rattle.table_steps.proofs.ladder_potentials.raise.Goals as goal

pub loop-k-preserved : goal.loop-k-preserved
loop-k-preserved c =
    let a = c.args in
    let l = c.loop-k in
    let inv = l.invariant in
    let k = l.k - 1 in
    let some : 0 < l.k = c.loop-k-test.true in
    let place : k < length a.rungs.now.products = search rules in
    let inside = c.requires.rungs.inside k place in
    let long = inv.each in
    let least = c.potential.ensures.small in
    rw c.products-list.ensures (record {
      each = length-set l.numbers (slice_index a.rungs.now.products k) c.potential.result ∙ inv.each;
      potentials = raised_more a.p.now a.node.now (weight_at a.weights.now) a.rungs.now l.numbers k c.potential.result c.requires.rungs inv.each place
          c.potential.ensures.value (λ q kq lq. inv.potentials q (omega arith) lq);
      small = small_more l.numbers a.rungs.now.products k c.potential.result ((length a.rungs.now.products - k) * price_bound) (omega arith) least
          (λ q kq lq. let s = inv.small q (omega arith) lq in omega arith);
      others = λ i off.
          get_or-set_other l.numbers (slice_index a.rungs.now.products k) i c.potential.result 0
          (λ e. off (ap (ladder_of a.p.now) e ∙ c.requires.rungs.on k place)) ∙ inv.others i off;
    })

pub returns : goal.returns
returns c =
    let a = c.args in
    let l = c.loop-k in
    let e : l.k ≡ 0 = search rules in
    let inv = l.invariant in
    raised_end a.p.now a.node.now (weight_at a.weights.now) a.rungs.now a.numbers.now l.numbers c.requires.rungs (search rules)
    (λ q kq lq. inv.potentials q (search rules) lq) (λ q kq lq. let s = inv.small q (search rules) lq in omega arith) inv.others

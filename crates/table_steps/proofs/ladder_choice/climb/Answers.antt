use Rattle.std.proofs.Common.{◌≡◌, pos, ◌-ℤ◌, true, false, rules, sym, ap, subst, length, slice_index}
use Rattle.std.specs.Prelude.{None}
use Rattle.offer_model.specs.Problems.{product_at}
use Rattle.linear_step.specs.Weights.{weight_at, prices_of}
use Rattle.table_steps.specs.LadderPotentials.{IsGreatestAfter}
use Rattle.table_steps.proofs.LadderRungLemmas.{product_read}
use Rattle.table_steps.proofs.LadderClimbLemmas.{climb_start, climb_on, climb_skipped, climb_last}
use Rattle.table_steps.proofs.ladder_choice.climb.Goals as goal

pub loop-k-init : goal.loop-k-init
loop-k-init c =
    let a = c.args in
    climb_start a.p.now (prices_of a.weights.now) a.numbers.now a.rungs.now c.greatest_after-want.result a.x.now c.requires.rungs c.requires.assortment
    (subst (λ t. IsGreatestAfter a.p.now a.numbers.now t None 0 (length t) c.greatest_after-want.result) c.products-list.ensures c.greatest_after-want.ensures)
    c.requires.free

pub loop-k-preserved-then-not-is_next : goal.loop-k-preserved-then-not-is_next
loop-k-preserved-then-not-is_next c =
    let a = c.args in
    let l = c.loop-k in
    let i = slice_index c.products-list.result.now l.k in
    let here : slice_index a.rungs.now.products l.k ≡ i = ap (λ t. slice_index t l.k) (sym c.products-list.ensures) in
    climb_skipped a.p.now (prices_of a.weights.now) a.numbers.now a.rungs.now l.k l.want i l.last a.x.now l.x here
    (λ some is follows.
    let t : c.is_next.result ≡ true = c.is_next.ensures.1 (some, is, follows) in
    let f : c.is_next.result ≡ false = search rules in
    cc)
    l.invariant

pub loop-k-preserved : goal.loop-k-preserved
loop-k-preserved c =
    let a = c.args in
    let l = c.loop-k in
    let i = slice_index c.products-list.result.now l.k in
    let here : slice_index a.rungs.now.products l.k ≡ i = ap (λ t. slice_index t l.k) (sym c.products-list.ensures) in
    let item : product_at a.p.now i ≡ c.get-in-loop-k.result.now
    = product_read a.p.now c.products.result.now.items i c.get-in-loop-k.result.now c.products.ensures.value c.get-in-loop-k.ensures in
    let next = c.is_next.ensures.0 (search rules) in
    let rest : pos c.less-want.result ≡ pos l.want -ℤ weight_at a.weights.now i = search rules in
    rw c.set.ensures (climb_on a.p.now (prices_of a.weights.now) a.numbers.now a.rungs.now l.k l.want i c.less-want.result c.get-in-loop-k.result.now l.last a.x.now l.x
    c.requires.sums c.requires.rungs (search rules) here item next.0 next.1 next.2 rest l.invariant)

pub returns : goal.returns
returns c =
    let a = c.args in
    let l = c.loop-k in
    climb_last a.p.now (prices_of a.weights.now) a.numbers.now a.rungs.now l.k l.want l.last a.x.now l.x (search rules) c.requires.assortment l.invariant

use Rattle.std.proofs.Common.{◌≡◌, ◌+◌, pos, ◌+ℤ◌, rules, sym, ap, subst, length, slice_index}
use Rattle.std.specs.Prelude.{Some}
use Rattle.offer_model.specs.Prices.{positive_part}
use Rattle.offer_model.specs.Problems.{product_at}
use Rattle.linear_step.specs.Weights.{weight_at}
use Rattle.table_steps.specs.LadderPotentials.{IsGreatestAfter}
use Rattle.table_steps.proofs.LadderRungLemmas.{product_read}
use Rattle.table_steps.proofs.LadderPotentialLemmas.{potential_is, potential_small}
use Rattle.table_steps.proofs.ladder_potentials.potential.Goals as goal

pub returns-clause-value : goal.returns-clause-value
returns-clause-value c =
    let a = c.args in
    let i = slice_index c.products-list.result.now a.k in
    let m = c.greatest_after-above.result in
    let here : slice_index a.rungs.now.products a.k ≡ i = ap (λ t. slice_index t a.k) (sym c.products-list.ensures) in
    let item : product_at a.p.now i ≡ c.get-product.result.now
    = product_read a.p.now c.products.result.now.items i c.get-product.result.now c.products.ensures.value c.get-product.ensures in
    let sum : pos c.positive.result ≡ positive_part (weight_at a.weights.now i +ℤ pos m) = search rules in
    potential_is a.p.now a.node.now (weight_at a.weights.now) a.numbers.now a.rungs.now a.k i m c.positive.result c.get-product.result.now c.requires.rungs
    c.requires.place here item (c.is_usable.ensures.0 (search rules))
    (subst (λ t. IsGreatestAfter a.p.now a.numbers.now t (Some c.get-product.result.now) (a.k + 1) (length t) m) c.products-list.ensures c.greatest_after-above.ensures)
    sum

pub returns-clause-small : goal.returns-clause-small
returns-clause-small c =
    let a = c.args in
    let i = slice_index c.products-list.result.now a.k in
    let m = c.greatest_after-above.result in
    let sum : pos c.positive.result ≡ positive_part (weight_at a.weights.now i +ℤ pos m) = search rules in
    potential_small a.p.now a.numbers.now a.rungs.now.products (Some c.get-product.result.now) a.k m c.positive.result (weight_at a.weights.now i) c.requires.place
    (subst (λ t. IsGreatestAfter a.p.now a.numbers.now t (Some c.get-product.result.now) (a.k + 1) (length t) m) c.products-list.ensures c.greatest_after-above.ensures)
    c.requires.small (c.requires.weights.small i (search rules)) sum

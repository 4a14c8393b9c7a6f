use Rattle.std.proofs.Common.{rules, arith, ◌≡◌, ◌-◌, ◌∙◌, ap, ℕ, List, length}
use Rattle.std.proofs.lemmas.List.Sorted.{IsNonDecreasingBy-from_sort_by_key, answers_always}
use Rattle.offer_model.specs.declared.products.Product.{Product}
use Rattle.offer_model.specs.Problems.{product_count}
use Rattle.segment_bound.specs.declared.order.Ranked.{Ranked}
use Rattle.segment_bound.specs.Orders.{ranked}
use Rattle.segment_bound.proofs.OrderLemmas.{sorted_order}
use Rattle.segment_bound.proofs.order.by_margin.Goals as goal

pub returns : goal.returns
returns c =
    let all : c.loop-product.product ≡ product_count c.args.p.now = omega (arith, ap (λ (qs : List Product). length qs) c.products-2.ensures.value) in
    sorted_order c.args.p.now 18446744073709551615 c.loop-product.order.items _ c.products.ensures.valid (omega arith)
    (c.loop-product.invariant.items ∙ ap (λ (n : ℕ). ranked c.args.p.now n) all)
    c.in_ok-sort_by_key.ensures.permutation
    (IsNonDecreasingBy-from_sort_by_key (λ (q : Ranked). 18446744073709551615 - q.margin) _ c.in_ok-sort_by_key.ensures.sorted (λ a r q k. search rules))
    (c.sort_by_key.ensures.stable (λ (q : Ranked). 18446744073709551615 - q.margin) (answers_always _ _ _ (λ f a r g h. search rules)))

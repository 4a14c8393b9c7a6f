use Rattle.std.proofs.Common.{◌≡◌, ℕ, ◌*◌, ◌^◌, ◌≤◌, length, sym, subst, arith}
use Rattle.std.proofs.lemmas.List.Sorted.{length_permutation, All-permutation}
use Rattle.offer_model.specs.Assortments.{sum_below}
use Rattle.segment_bound.proofs.TopListLemmas.{upper, upper_none, number_le, sorted_top, top_moved, upper_most}
use Rattle.segment_bound.proofs.tops.top_sum.Goals as goal

pub loop-k-init : goal.loop-k-init
loop-k-init c = record {
  so_far = sym (upper_none c.sort_above.new.numbers.items c.saturating_sub-first.result c.saturating_sub-first.result (omega arith));
  from = omega arith;
}

pub overflow_add-total : goal.overflow_add-total
overflow_add-total c =
    let long = length_permutation c.args.numbers.now.items c.sort_above.new.numbers.items c.sort_above.ensures.moved in
    let small = All-permutation (λ (x : ℕ). x ≤ 2 ^ 60 * 10 ^ 18) c.args.numbers.now.items c.sort_above.new.numbers.items c.sort_above.ensures.moved c.requires.small in
    let few = c.requires.few in
    let t = number_le c.sort_above.new.numbers.items c.loop-k.k c.loop-k.total (2 ^ 60 * 10 ^ 18) c.saturating_sub-first.result (omega (arith, long, few)) small (omega arith) c.loop-k.invariant.from c.loop-k.invariant.so_far in
    grind (arith, t)

-- The loop's sum, where it has ended.
pub returns-clause-top : goal.returns-clause-top
returns-clause-top c =
    let done : c.loop-k.k ≡ length c.sort_above.new.numbers.items = omega arith in
    let total : c.loop-k.total ≡ sum_below (length c.sort_above.new.numbers.items) (upper c.sort_above.new.numbers.items c.saturating_sub-first.result)
    = subst (λ (k : ℕ). c.loop-k.total ≡ sum_below k (upper c.sort_above.new.numbers.items c.saturating_sub-first.result)) done c.loop-k.invariant.so_far in
    top_moved c.args.numbers.now.items c.sort_above.new.numbers.items c.args.room c.loop-k.total c.sort_above.ensures.moved
    (sorted_top c.sort_above.new.numbers.items c.args.room c.saturating_sub-first.result c.loop-k.total c.sort_above.ensures.rising (omega arith) total)

pub returns-clause-most : goal.returns-clause-most
returns-clause-most c =
    let done : c.loop-k.k ≡ length c.sort_above.new.numbers.items = omega arith in
    let total : c.loop-k.total ≡ sum_below (length c.sort_above.new.numbers.items) (upper c.sort_above.new.numbers.items c.saturating_sub-first.result)
    = subst (λ (k : ℕ). c.loop-k.total ≡ sum_below k (upper c.sort_above.new.numbers.items c.saturating_sub-first.result)) done c.loop-k.invariant.so_far in
    upper_most c.args.numbers.now.items c.sort_above.new.numbers.items c.saturating_sub-first.result c.loop-k.total c.sort_above.ensures.moved total

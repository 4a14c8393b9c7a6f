use Rattle.std.proofs.Common.{◌≡◌, ◌∙◌, List, arith, sym, ap, subst, get_or}
use Rattle.std.proofs.lemmas.List.Elements.{All-get_or}
use Rattle.offer_model.specs.declared.node.Mark.{Mark}
use Rattle.offer_model.specs.Nodes.{mark_at, is_in}
use Rattle.offer_model.specs.Validity.{IsSegment}
use Rattle.segment_bound.specs.declared.order.Ranked.{Ranked}
use Rattle.segment_bound.specs.Kept.{IsKept, sums_at, listed_segment}
use Rattle.segment_bound.proofs.KeptLemmas.{ranked_inside, sums_hold, kept_moved}
use Rattle.segment_bound.proofs.follow.settle.Goals as goal

pub mark-was-requires : goal.mark-was-requires
mark-was-requires c =
    let inside = (ranked_inside c.args.order.now c.args.r record { margin = 0; product = 0 } c.requires.kept.ranking c.requires.rank).0 in
    let long = c.requires.kept.long in
    omega (arith, inside, long)

pub mark-mark-requires : goal.mark-mark-requires
mark-mark-requires c =
    let inside = (ranked_inside c.args.order.now c.args.r record { margin = 0; product = 0 } c.requires.kept.ranking c.requires.rank).0 in
    let long = c.requires.node in
    omega (arith, inside, long)

pub move_each-requires-clause-margin : goal.move_each-requires-clause-margin
move_each-requires-clause-margin c = (ranked_inside c.args.order.now c.args.r record { margin = 0; product = 0 } c.requires.kept.ranking c.requires.rank).1

pub move_each-requires-clause-holds : goal.move_each-requires-clause-holds
move_each-requires-clause-holds c =
    let was : c.is_in.result ≡ is_in (mark_at c.args.last.now (get_or c.args.order.now c.args.r record { margin = 0; product = 0 }).product) = c.is_in.ensures ∙ ap is_in c.mark-was.ensures in
    let each = c.requires.kept.each in
    λ k l. rw was (sums_hold c.args.order.now (listed_segment c.args.segments.now.items k) c.args.last.now (sums_at c.args.sums.now k) c.args.r record { margin = 0; product = 0 } c.requires.kept.ranking
    (All-get_or IsSegment c.args.segments.now.items k _ (omega (arith, each, l)) c.requires.kept.valid) (c.requires.kept.each_sum k (omega (arith, each, l))) c.requires.rank)

pub returns-then-ne-clause-kept : goal.returns-then-ne-clause-kept
returns-then-ne-clause-kept c =
    let q : Ranked = get_or c.args.order.now c.args.r record { margin = 0; product = 0 } in
    let was : c.is_in.result ≡ is_in (mark_at c.args.last.now q.product) = c.is_in.ensures ∙ ap is_in c.mark-was.ensures in
    let is : c.is_in-then-ne.result ≡ is_in c.mark-mark.result = c.is_in-then-ne.ensures in
    let moved = kept_moved c.args.order.now c.args.segments.now.items c.args.last.now c.args.sums.now c.move_each.new.sums c.args.r record { margin = 0; product = 0 } c.mark-mark.result
    c.requires.kept c.requires.rank c.move_each.ensures.each (λ k l. rw (← was, ← is) (c.move_each.ensures.moved k l)) in
    subst (λ (node : List Mark). IsKept c.args.order.now c.args.segments.now.items node c.move_each.new.sums) (sym c.set.ensures) moved

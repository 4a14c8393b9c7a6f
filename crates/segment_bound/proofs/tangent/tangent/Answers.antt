use Rattle.std.proofs.Common.{◌≡◌, ℕ, ◌/◌, length, arith, sym, ap, ◌∙◌, subst}
use Rattle.std.specs.List.{All}
use Rattle.segment_bound.specs.Kept.{IsListed}
use Rattle.segment_bound.proofs.OrderLemmas.{length-order, order_listed}
use Rattle.segment_bound.proofs.TangentValueLemmas.{room_is, slopes_small, sums_small, products_small, tangent_is}
use Rattle.segment_bound.proofs.tangent.tangent.Goals as goal

pub heights-requires-clause-small : goal.heights-requires-clause-small
heights-requires-clause-small c = slopes_small c.args.p.now c.args.order.now c.args.segments.now.items c.args.node.now c.args.sums.now c.find_slopes.new.slopes c.requires.fits c.requires.kept c.find_slopes.ensures.slopes

pub heights-requires-clause-parts : goal.heights-requires-clause-parts
heights-requires-clause-parts c = sums_small c.args.p.now c.args.order.now c.args.segments.now.items c.args.node.now c.args.sums.now c.find_slopes.new.slopes c.requires.fits c.requires.kept c.find_slopes.ensures.slopes

pub raises-top-requires-clause-listed : goal.raises-top-requires-clause-listed
raises-top-requires-clause-listed c =
    let long : length c.args.node.now ≡ _ = c.requires.kept.long ∙ length-order c.args.p.now c.args.order.now c.requires.fits.order in
    subst (λ (n : ℕ). All (IsListed n) c.args.order.now) (sym long) (order_listed c.args.p.now c.args.order.now c.requires.fits.valid c.requires.fits.order)

pub raises-top-requires-clause-few : goal.raises-top-requires-clause-few
raises-top-requires-clause-few c =
    let long = length-order c.args.p.now c.args.order.now c.requires.fits.order in
    let few = c.requires.fits.valid.few in
    omega (arith, long, few)

pub raises-top-requires-clause-small : goal.raises-top-requires-clause-small
raises-top-requires-clause-small c = slopes_small c.args.p.now c.args.order.now c.args.segments.now.items c.args.node.now c.args.sums.now c.find_slopes.new.slopes c.requires.fits c.requires.kept c.find_slopes.ensures.slopes

pub raises-top-requires-clause-parts : goal.raises-top-requires-clause-parts
raises-top-requires-clause-parts c some =
    products_small c.args.p.now c.args.order.now c.args.segments.now.items c.args.node.now c.args.sums.now c.find_slopes.new.slopes c.requires.fits c.requires.kept c.find_slopes.ensures.slopes (let e = room_is c.room_of-room.result c.args.cap c.args.p.now c.args.node.now _ c.requires.fits.order c.requires.kept.long c.requires.cap c.room_of-room.ensures in omega (arith, e, some))

pub depths-requires-clause-small : goal.depths-requires-clause-small
depths-requires-clause-small c = slopes_small c.args.p.now c.args.order.now c.args.segments.now.items c.args.node.now c.args.sums.now c.find_slopes.new.slopes c.requires.fits c.requires.kept c.find_slopes.ensures.slopes

pub depths-requires-clause-parts : goal.depths-requires-clause-parts
depths-requires-clause-parts c = sums_small c.args.p.now c.args.order.now c.args.segments.now.items c.args.node.now c.args.sums.now c.find_slopes.new.slopes c.requires.fits c.requires.kept c.find_slopes.ensures.slopes

pub find_slopes-requires-clause-room : goal.find_slopes-requires-clause-room
find_slopes-requires-clause-room c = room_is c.room_of-room.result c.args.cap c.args.p.now c.args.node.now _ c.requires.fits.order c.requires.kept.long c.requires.cap c.room_of-room.ensures

pub returns-clause-value : goal.returns-clause-value
returns-clause-value c =
    let here = room_is c.room_of-room.result c.args.cap c.args.p.now c.args.node.now _ c.requires.fits.order c.requires.kept.long c.requires.cap c.room_of-room.ensures in
    let number = tangent_is c.args.p.now c.args.order.now c.args.segments.now.items c.args.node.now c.args.sums.now c.find_slopes.new.slopes c.requires.fits c.requires.kept c.find_slopes.ensures.slopes
    c.heights.result c.raises-top.result c.depths.result c.saturating_sub.result c.room_of-room.result here c.heights.ensures.value c.raises-top.ensures.top c.depths.ensures c.saturating_sub.ensures in
    ap (λ t. c.saturating_sub.result / t) c.from.ensures ∙ number

use Rattle.std.proofs.Common.{rules, ◌≡◌, ℕ, ◌<◌, IfOk, length, arith, sym, ◌∙◌, subst}
use Rattle.std.specs.List.{All}
use Rattle.segment_bound.specs.Kept.{IsListed}
use Rattle.segment_bound.proofs.OrderLemmas.{length-order, order_listed}
use Rattle.segment_bound.proofs.TangentValueLemmas.{room_is, slopes_small, products_small}
use Rattle.segment_bound.proofs.prices.by_price.Goals as goal

pub find_slopes-requires-clause-room : goal.find_slopes-requires-clause-room
find_slopes-requires-clause-room c = room_is c.room_of-room.result c.args.cap c.args.p.now c.args.node.now _ c.requires.fits.order c.requires.kept.long c.requires.cap c.room_of-room.ensures

pub lack_each-requires-clause-listed : goal.lack_each-requires-clause-listed
lack_each-requires-clause-listed c =
    let long : length c.args.node.now ≡ _ = c.requires.kept.long ∙ length-order c.args.p.now c.args.order.now c.requires.fits.order in
    subst (λ (n : ℕ). All (IsListed n) c.args.order.now) (sym long) (order_listed c.args.p.now c.args.order.now c.requires.fits.valid c.requires.fits.order)

pub lack_each-requires-clause-small : goal.lack_each-requires-clause-small
lack_each-requires-clause-small c = slopes_small c.args.p.now c.args.order.now c.args.segments.now.items c.args.node.now c.args.sums.now c.find_slopes.new.slopes c.requires.fits c.requires.kept c.find_slopes.ensures.slopes

pub lack_each-requires-clause-parts : goal.lack_each-requires-clause-parts
lack_each-requires-clause-parts c some =
    products_small c.args.p.now c.args.order.now c.args.segments.now.items c.args.node.now c.args.sums.now c.find_slopes.new.slopes c.requires.fits c.requires.kept c.find_slopes.ensures.slopes (let e = room_is c.room_of-room.result c.args.cap c.args.p.now c.args.node.now _ c.requires.fits.order c.requires.kept.long c.requires.cap c.room_of-room.ensures in omega (arith, e, some))

pub returns : goal.returns
returns c =
    let here : length c.deref.result.now ≡ length c.args.node.now = search rules in
    let all = here ∙ (c.requires.kept.long ∙ length-order c.args.p.now c.args.order.now c.requires.fits.order) in
    record { inside = subst (λ (n : ℕ). IfOk c.places_rising.result (λ prices. All (λ i. i < n) prices.items)) all c.places_rising.ensures }

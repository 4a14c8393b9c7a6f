use Rattle.std.proofs.Common.{rules, ◌≡◌, ◌+◌, ◌*◌, ◌≤◌, false, true, ltb, arith, refl, sym, subst, get_or}
use Rattle.offer_model.specs.Nodes.{is_open}
use Rattle.segment_bound.specs.declared.order.Ranked.{Ranked}
use Rattle.segment_bound.specs.Sums.{IsReached, taken_if}
use Rattle.segment_bound.proofs.OrderLemmas.{Falling-from_pairs}
use Rattle.segment_bound.proofs.ReachLemmas.{grown, grown_reached, grown_step, grown_stops, grown_end, taken_gain, taken_weight}
use Rattle.segment_bound.proofs.greatest.reach.Goals as goal

pub returns-then-not-is_below-clause-reached : goal.returns-then-not-is_below-clause-reached
returns-then-not-is_below-clause-reached c =
    let q : Ranked = get_or c.args.order.now c.loop-q.q-index record { margin = 0; product = 0 } in
    let low : ltb c.loop-q.sums.gain (q.margin * c.loop-q.sums.weight) ≡ false = search rules in
    let falling = Falling-from_pairs c.args.order.now c.requires.falling in
    let same = grown_stops c.args.node.now c.args.segment.now c.args.order.now c.loop-q.q-index record { margin = 0; product = 0 } q c.loop-q.sums
    (grown c.args.node.now c.args.segment.now c.args.order.now c.args.start) falling c.loop-q-test.true refl low c.loop-q.invariant.so_far in
    subst (IsReached c.args.order.now c.args.segment.now c.args.node.now c.args.start) (sym same) (grown_reached c.args.node.now c.args.segment.now c.args.order.now falling c.args.start)

pub loop-q-preserved : goal.loop-q-preserved
loop-q-preserved c =
    let q : Ranked = get_or c.args.order.now c.loop-q.q-index record { margin = 0; product = 0 } in
    let up : ltb c.loop-q.sums.gain (q.margin * c.loop-q.sums.weight) ≡ true = search rules in
    let taken : c.taken_if-sums.result ≡ taken_if (is_open c.mark.result) q c.attract.result c.loop-q.sums = search rules in
    let v : c.attract.result ≤ 1000000000 = search rules in
    let margin = (c.requires.listed c.loop-q.q-index record { margin = 0; product = 0 } c.loop-q-test.true).1 in
    let gain = taken_gain c.args.node.now c.args.segment.now c.loop-q.sums q c.attract.result (256 + c.loop-q.q-index) (is_open c.mark.result) margin v c.loop-q.invariant.gain in
    let weight = taken_weight c.args.node.now c.args.segment.now c.loop-q.sums q c.attract.result (257 + c.loop-q.q-index) (is_open c.mark.result) v c.loop-q.invariant.weight in
    record {
      so_far = grown_step c.args.node.now c.args.segment.now c.args.order.now c.loop-q.q-index record { margin = 0; product = 0 } q c.mark.result c.attract.result c.loop-q.sums c.taken_if-sums.result
          (grown c.args.node.now c.args.segment.now c.args.order.now c.args.start) c.loop-q-test.true refl c.mark.ensures c.attract.ensures.value up c.loop-q.invariant.so_far taken;
      gain = rw taken (omega (arith, gain));
      weight = rw taken (omega (arith, weight));
    }

pub returns-clause-reached : goal.returns-clause-reached
returns-clause-reached c =
    let falling = Falling-from_pairs c.args.order.now c.requires.falling in
    let same = grown_end c.args.node.now c.args.segment.now c.args.order.now c.loop-q.q-index c.loop-q.sums (grown c.args.node.now c.args.segment.now c.args.order.now c.args.start)
    c.loop-q-test.false c.loop-q.invariant.so_far in
    subst (IsReached c.args.order.now c.args.segment.now c.args.node.now c.args.start) (sym same) (grown_reached c.args.node.now c.args.segment.now c.args.order.now falling c.args.start)

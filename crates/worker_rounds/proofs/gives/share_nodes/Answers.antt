use Rattle.std.proofs.Common.{rules, ◌≡◌, length, inl, arith}
use Rattle.worker_rounds.proofs.ShareLemmas.{shared_self, shared_products}
use Rattle.worker_rounds.proofs.GiveLemmas.{crew_parts, parts_products, shared_parts, even_parts, even_all}
use Rattle.worker_rounds.proofs.gives.share_nodes.Goals as goal

pub loop-i-init : goal.loop-i-init
loop-i-init g c = record { shared = shared_self _; even = inl tt }

pub give_from-requires-clause-front : goal.give_from-requires-clause-front
give_from-requires-clause-front g c =
    let one : length c.split_at_mut-donor.result.0.now ≡ 1 = search rules in
    let is = crew_parts _ _ _ _ _ c.index-donor-0.result c.split_at_mut-front.ensures.value c.split_at_mut-donor.ensures.value one in
    (parts_products c.requires.0 _ _ _ _ is (shared_products c.requires.0 _ _ c.loop-i.invariant.shared c.requires.1)).0

pub give_from-requires-clause-back : goal.give_from-requires-clause-back
give_from-requires-clause-back g c =
    let one : length c.split_at_mut-donor.result.0.now ≡ 1 = search rules in
    let is = crew_parts _ _ _ _ _ c.index-donor-0.result c.split_at_mut-front.ensures.value c.split_at_mut-donor.ensures.value one in
    (parts_products c.requires.0 _ _ _ _ is (shared_products c.requires.0 _ _ c.loop-i.invariant.shared c.requires.1)).1

pub loop-i-preserved : goal.loop-i-preserved
loop-i-preserved g c =
    let one : length c.split_at_mut-donor.result.0.now ≡ 1 = search rules in
    let is = crew_parts _ _ _ _ _ c.index-donor-0.result c.split_at_mut-front.ensures.value c.split_at_mut-donor.ensures.value one in
    record {
      shared = shared_parts _ _ _ _ _ _ _ _ _ c.loop-i.invariant.shared is one c.give_from.ensures.shared;
      even = even_parts _ _ _ _ _ _ _ _ _ c.loop-i.invariant.even is one (search rules) c.give_from.ensures.shared c.give_from.ensures.even;
    }

pub returns-clause-even : goal.returns-clause-even
returns-clause-even g c = even_all c.loop-i.i _ (omega (arith, c.loop-i.auto.crew, c.loop-i-test.false)) c.loop-i.invariant.even

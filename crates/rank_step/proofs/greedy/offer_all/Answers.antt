use Rattle.std.proofs.Common.{◌≡◌, ◌-◌, rules, false, ◌<◌, length}
use Rattle.std.specs.Prelude.{Some, None}
use Rattle.offer_model.specs.Assortments.{offers}
use Rattle.linear_step.specs.Weights.{weight_at}
use Rattle.rank_step.specs.Candidates.{candidate_at}
use Rattle.rank_step.specs.Rooms.{IsFullCap}
use Rattle.rank_step.proofs.GreedyLemmas.{filling_more, filling_refused, past_offered, past_refused}
use Rattle.rank_step.proofs.greedy.offer_all.Goals as goal

pub loop-k-preserved-in-Some : goal.loop-k-preserved-in-Some
loop-k-preserved-in-Some c =
    let a = c.args in
    let r = c.requires in
    let l = c.loop-k in
    let k = l.k - 1 in
    let inside : k < length a.list.now = search rules in
    let full : IsFullCap l.rooms a.at.now (candidate_at a.list.now k).product (Some c.in-Some.full) = rw c.in-Some.is at c.full_cap.ensures in
    record {
      filling = filling_refused a.p.now a.node.now (weight_at a.weights.now) a.at.now a.list.now k l.k l.x l.rooms c.refuse.new.self c.in-Some.full
          (search rules) (r.candidates.each k inside) full c.refuse.ensures l.invariant.past l.invariant.filling;
      past = past_refused a.p.now a.node.now (weight_at a.weights.now) a.at.now a.list.now k l.k l.x l.rooms c.refuse.new.self c.in-Some.full
          (search rules) r.candidates inside l.invariant.filling.kept full c.refuse.ensures l.invariant.past;
    }

pub loop-k-preserved : goal.loop-k-preserved
loop-k-preserved c =
    let a = c.args in
    let l = c.loop-k in
    let k = l.k - 1 in
    let candidate = candidate_at a.list.now k in
    let inside : k < length a.list.now = search rules in
    let o : offers l.x candidate.product ≡ false = search rules in
    let room : IsFullCap l.rooms a.at.now candidate.product None = rw c.in_default.is at c.full_cap.ensures in
    record {
      filling = rw c.set.ensures (filling_more a.p.now a.node.now (weight_at a.weights.now) a.at.now l.x l.rooms c.take.new.self candidate
          c.requires.places (c.requires.candidates.each k inside) o room c.take.ensures l.invariant.filling);
      past = rw c.set.ensures (past_offered a.p.now a.node.now (weight_at a.weights.now) a.at.now a.list.now k l.k l.x l.rooms c.take.new.self
          (search rules) c.requires.candidates inside l.invariant.filling.each c.take.ensures.cutoffs l.invariant.past);
    }

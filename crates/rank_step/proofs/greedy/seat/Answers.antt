use Rattle.std.proofs.Common.{◌≡◌, rules}
use Rattle.offer_model.specs.declared.node.Mark.TheVariants.{In}
use Rattle.offer_model.specs.Nodes.{mark_at}
use Rattle.rank_step.proofs.RoomLemmas.{full_clashes, taken_in}
use Rattle.rank_step.proofs.greedy.seat.Goals as goal

pub returns-then-is_some-clause-clash : goal.returns-then-is_some-clause-clash
returns-then-is_some-clause-clash c = λ e.
    let a = c.args in
    let l = c.loop-i in
    let is_in : mark_at a.node.now l.i ≡ In = search rules in
    full_clashes a.p.now a.node.now a.at.now l.rooms l.i c.full_cap.result c.requires.places (search rules) is_in l.invariant.rooms_each l.invariant.taken
    c.full_cap.ensures (search rules)

pub loop-i-preserved : goal.loop-i-preserved
loop-i-preserved c =
    let a = c.args in
    let l = c.loop-i in
    let is_in : mark_at a.node.now l.i ≡ In = search rules in
    record {
      rooms_each = search rules;
      taken = taken_in a.p.now a.node.now a.at.now l.rooms c.take.new.self l.i c.requires.places (search rules) is_in l.invariant.rooms_each
          c.take.ensures l.invariant.taken;
      cutoffs = search rules;
    }

use Rattle.std.proofs.Common.{◌<◌, length, arith}
use Rattle.cut_step.proofs.ForcedLemmas.{covered_some}
use Rattle.cut_step.proofs.forced.cover_deficit.Goals as goal

pub returns-then-d-gt0-clause-covered : goal.returns-then-d-gt0-clause-covered
returns-then-d-gt0-clause-covered c =
    let p = c.push.ensures.pushed in
    let lt : c.push.result < length c.args.tree.now = omega (arith, p.above, c.requires.place) in
    covered_some c.args.rows.now c.args.node.now c.args.flow.now.excess.items c.push.new.flow.excess.items c.args.flow.now.amounts.items
    c.push.new.flow.amounts.items c.args.tree.now c.args.place c.push.result c.deficit_at-d.result c.requires.push.well c.requires.place
    c.deficit_at-d.ensures c.if-d-gt0.true (c.requires.full.roots c.push.result lt c.push.ensures.root) p

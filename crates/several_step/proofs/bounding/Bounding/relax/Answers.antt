use Rattle.std.proofs.Common.{◌≡◌, rules}
use Rattle.several_step.proofs.SearchLemmas.{list_bounds}
use Rattle.several_step.proofs.bounding.Bounding.relax.Goals as goal

pub returns-clause-bounds : goal.returns-clause-bounds
returns-clause-bounds c =
    let rungs : c.self-2.inside.rungs.items ≡ c.args.self.now.rungs = search rules in
    let limited : c.self-2.inside.limited.items ≡ c.args.self.now.limited = search rules in
    list_bounds c.args.p.now c.args.weights.now c.relax.new.list c.self-2.inside.rungs.items c.self-2.inside.limited.items c.requires.weights c.relax.ensures.relaxed
    (rw (rungs, limited) c.requires.fits.rungs)

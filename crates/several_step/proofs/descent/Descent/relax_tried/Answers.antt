use Rattle.std.proofs.Common.{◌≡◌, ◌∙◌, refl, rules}
use Rattle.multiplier_bound.proofs.DescentLemmas.{held_fit}
use Rattle.several_step.proofs.SearchLemmas.{small_list}
use Rattle.several_step.proofs.descent.Descent.relax_tried.Goals as goal

pub relax-requires-clause-fit : goal.relax-requires-clause-fit
relax-requires-clause-fit c =
    let read : c.deref.result.now ≡ c.self.inside.tried.items = search rules in
    rw (c.write_numbers.ensures.items, read) (held_fit c.args.p.now c.self.inside.multipliers c.args.self.now c.self.inside.tried.items c.self.inside.tried.items
    c.requires.valid c.self.invariant.2 c.self.view_is c.requires.lists refl c.self.invariant.3)

pub returns-clause-relaxed : goal.returns-clause-relaxed
returns-clause-relaxed c =
    let read : c.deref.result.now ≡ c.self.inside.tried.items = search rules in
    let same : c.write_numbers.new.numbers.items ≡ c.self.inside.tried.items = c.write_numbers.ensures.items ∙ read in
    small_list c.args.p.now c.write_numbers.new.numbers.items c.args.weights.now c.relax.new.list
    (rw same (held_fit c.args.p.now c.self.inside.multipliers c.args.self.now c.self.inside.tried.items c.self.inside.tried.items
    c.requires.valid c.self.invariant.2 c.self.view_is c.requires.lists refl c.self.invariant.3))
    (rw same c.self.invariant.3) c.requires.weights c.relax.ensures

use Rattle.std.proofs.Common.{◌∙◌, sym}
use Rattle.offer_model.specs.Assortments.{offers}
use Rattle.cut_step.specs.Searches.{seen}
use Rattle.cut_step.proofs.ClosingLemmas.{solved_greatest, greatest_same}
use Rattle.cut_step.proofs.solve.greatest.Goals as goal

pub returns-clause-answer : goal.returns-clause-answer
returns-clause-answer c =
    let x = c.in_ok-x.x in
    let reach = c.solve.new.reach in
    let done = c.if-not-solve.ensures in (
      c.in_ok-x.ensures.each ∙ sym done.lists.marks,
      greatest_same c.args.rows.now c.args.node.now c.args.weights.now.items (seen reach.spots.items) (offers x) c.in_ok-x.ensures.offered
          (solved_greatest c.args.rows.now c.args.node.now c.args.weights.now.items c.solve.new.flow.excess.items c.solve.new.flow.amounts.items
          reach.spots.items (sym c.requires.weights) done.done),
    )

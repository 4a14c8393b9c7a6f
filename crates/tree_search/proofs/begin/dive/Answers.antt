use Rattle.std.proofs.Common.{◌∙◌, subst, refl}
use Rattle.tree_search.specs.Goals.{Rules}
use Rattle.tree_search.specs.Turns.{Turn, HasBoundInRange, least}
use Rattle.tree_search.proofs.BeginLemmas.{root_has, kept_by}
use Rattle.tree_search.proofs.SizeLemmas.{turn_smaller}
use Rattle.tree_search.proofs.RunLemmas.{turn_products, turn_same}
use Rattle.tree_search.proofs.begin.dive.Goals as goal

pub loop-walker-init : goal.loop-walker-init
loop-walker-init g c =
    let r : Rules = g.T.Goal.rules c.args.goal.now in
    record {
      same = refl;
      products = refl;
      none = c.requires.none;
      left = root_has r c.args.walker.now c.requires.goal c.requires.whole;
    }

pub loop-walker-smaller : goal.loop-walker-smaller
loop-walker-smaller g c =
    let r : Rules = g.T.Goal.rules c.args.goal.now in
    let i = c.loop-walker.invariant in
    let t = subst (λ x. Turn (g.T.Goal.rules x) least c.loop-walker.walker c.work.new.self) i.same c.work.ensures.turn in
    turn_smaller r (g.met.T.Goal.lawful c.args.goal.now) least c.loop-walker.walker c.work.new.self t (i.products ∙ c.requires.goal) c.work.ensures.was_sound

pub loop-walker-preserved : goal.loop-walker-preserved
loop-walker-preserved g c =
    let r : Rules = g.T.Goal.rules c.args.goal.now in
    let i = c.loop-walker.invariant in
    let t = subst (λ x. Turn (g.T.Goal.rules x) least c.loop-walker.walker c.work.new.self) i.same c.work.ensures.turn in
    let range = subst (λ x. HasBoundInRange (g.T.Goal.rules x) c.loop-walker.walker.stack) i.same c.work.ensures.range in
    let same = turn_same r least c.loop-walker.walker c.work.new.self t (λ d. (let e = c.work.ensures.changed.1 d in let f = c.if-work.false in absurd cc)) in
    record {
      same = c.work.ensures.same ∙ i.same;
      products = turn_products r least c.loop-walker.walker c.work.new.self t ∙ i.products;
      none = same ∙ i.none;
      left = kept_by r (g.met.T.Goal.lawful c.args.goal.now) c.loop-walker.walker c.work.new.self t (i.products ∙ c.requires.goal) c.work.ensures.was_sound i.none range i.left;
    }

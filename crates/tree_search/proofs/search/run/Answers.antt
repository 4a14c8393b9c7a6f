use Rattle.std.proofs.Common.{rules, sym, subst, ◌≡◌, ◌∙◌}
use Rattle.std.specs.Prelude.{ℤ}
use Rattle.std.proofs.lemmas.Int.{to_z-of_z}
use mir.Val.{SFits, to_z}
use mir.Syntax.{w128}
use Rattle.tree_search.specs.Goals.{Rules, IsLawful}
use Rattle.tree_search.specs.Turns.{Turn, HasBoundInRange}
use Rattle.tree_search.specs.Progress.{IsOwn}
use Rattle.tree_search.proofs.CoverLemmas.{turn_has, turn_feasible}
use Rattle.tree_search.proofs.SizeLemmas.{turn_smaller}
use Rattle.tree_search.proofs.RunLemmas.{turn_products}
use Rattle.tree_search.proofs.search.run.Goals as goal

pub loop-walker-smaller : goal.loop-walker-smaller
loop-walker-smaller g c =
    let r : Rules = g.T.Goal.rules c.args.goal.now in
    let law : IsLawful r = g.met.T.Goal.lawful c.args.goal.now in
    let i = c.loop-walker.invariant in
    let t = subst (λ (z : ℤ). Turn r z c.loop-walker.walker c.turn-seen.new.walker) c.loop-walker.seen-is
    (subst (λ x. Turn (g.T.Goal.rules x) (to_z w128 c.loop-walker.seen-bits) c.loop-walker.walker c.turn-seen.new.walker) i.same c.turn-seen.ensures.turn) in
    turn_smaller r law c.loop-walker.seen c.loop-walker.walker c.turn-seen.new.walker t (i.products ∙ c.requires.goal) c.turn-seen.ensures.sound

pub loop-walker-preserved : goal.loop-walker-preserved
loop-walker-preserved g c =
    let r : Rules = g.T.Goal.rules c.args.goal.now in
    let law : IsLawful r = g.met.T.Goal.lawful c.args.goal.now in
    let i = c.loop-walker.invariant in
    let t = subst (λ (z : ℤ). Turn r z c.loop-walker.walker c.turn-seen.new.walker) c.loop-walker.seen-is
    (subst (λ x. Turn (g.T.Goal.rules x) (to_z w128 c.loop-walker.seen-bits) c.loop-walker.walker c.turn-seen.new.walker) i.same c.turn-seen.ensures.turn) in
    let p : c.loop-walker.walker.products ≡ r.products = i.products ∙ c.requires.goal in
    let range = subst (λ x. HasBoundInRange (g.T.Goal.rules x) c.loop-walker.walker.stack) i.same c.turn-seen.ensures.range in
    let fit : SFits w128 c.turn-seen.result = search rules in
    record {
      same = c.turn-seen.ensures.same ∙ i.same;
      products = turn_products r c.loop-walker.seen c.loop-walker.walker c.turn-seen.new.walker t ∙ i.products;
      best = turn_feasible r law c.loop-walker.seen c.loop-walker.walker c.turn-seen.new.walker t p c.turn-seen.ensures.sound i.best;
      own = subst (λ (z : ℤ). IsOwn r c.turn-seen.new.walker.best z) (sym (to_z-of_z w128 c.turn-seen.result fit))
          (subst (λ x. IsOwn (g.T.Goal.rules x) c.turn-seen.new.walker.best c.turn-seen.result) i.same c.turn-seen.ensures.own);
      kept = λ y f h. turn_has r law c.loop-walker.seen c.loop-walker.walker c.turn-seen.new.walker t p c.turn-seen.ensures.sound i.best y f
          (subst (λ (z : ℤ). IsOwn r c.loop-walker.walker.best z) c.loop-walker.seen-is i.own) range (i.kept y f h);
    }

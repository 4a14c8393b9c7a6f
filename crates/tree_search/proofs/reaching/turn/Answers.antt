use Rattle.std.proofs.Common.{◌≡◌, sym, subst, Bool, Option, List}
use Rattle.std.proofs.lemmas.Int.{to_z-of_z}
use mir.Syntax.{w128}
use mir.Val.{to_z}
use Rattle.tree_search.specs.Progress.{IsFeasibleBest, IsReached}
use Rattle.tree_search.proofs.CoverLemmas.{turn_feasible}
use Rattle.tree_search.proofs.RunLemmas.{turn_same}
use Rattle.tree_search.proofs.reaching.turn.Goals as goal
use Rattle.tree_search.proofs.reaching.turn.Goals.{Then-not-work}
use Rattle.tree_search.proofs.reaching.turn.Given.{Over}

-- The best is the same where it didn't change.
same_best : (g : Over) (c : Then-not-work g) → c.work.new.self.best ≡ c.args.walker.now.best
same_best g c = turn_same (g.T.Goal.rules c.args.goal.now) _ _ _ c.work.ensures.turn
    (λ d. (let e = c.work.ensures.changed.1 d in let f = c.if-not-work.true in absurd cc))

pub returns-then-not-work-clause-reached : goal.returns-then-not-work-clause-reached
returns-then-not-work-clause-reached g c =
    rw (to_z-of_z w128 c.args.seen c.ranges.seen)
    (subst (λ (o : Option (List Bool)). IsReached (g.T.Goal.rules c.args.goal.now) c.args.floor o c.args.seen) (sym (same_best g c)) c.requires.reached)

pub wanted-requires-clause-best : goal.wanted-requires-clause-best
wanted-requires-clause-best g c =
    subst (λ x. IsFeasibleBest (g.T.Goal.rules x) c.work.new.self.best) (sym c.work.ensures.same)
    (turn_feasible (g.T.Goal.rules c.args.goal.now) (g.met.T.Goal.lawful c.args.goal.now) _ _ _ c.work.ensures.turn c.requires.goal c.work.ensures.was_sound c.requires.best)

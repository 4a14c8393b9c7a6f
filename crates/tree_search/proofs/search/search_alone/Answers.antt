use Rattle.std.proofs.Common.{ap, sym, subst, Some, refl, ◌≡◌, ◌∙◌, List, [], ◌∷◌, Bool}
use Rattle.tree_search.specs.Goals.{Rules, IsFeasibleFor, IsFoundOf}
use Rattle.tree_search.specs.Tasks.{task_of}
use Rattle.tree_search.specs.Turns.{Walk, with_stack}
use Rattle.tree_search.specs.Progress.{Covers, Has, IsFeasibleBest}
use Rattle.tree_search.proofs.RunLemmas.{progress_starts, progress_more}
use Rattle.tree_search.proofs.search.search_alone.Goals as goal

pub loop-task-init : goal.loop-task-init
loop-task-init g c =
    let r : Rules = g.T.Goal.rules c.greedy.new.goal in
    let e = c.in_ok-walker.ensures in
    let found : IsFeasibleFor r c.in-Some.first =
    subst (λ x. IsFoundOf (g.T.Goal.rules x) (Some c.in-Some.first)) (sym c.in_ok-first.ensures.same)
    (subst (IsFoundOf (g.T.Goal.rules c.args.goal.now)) c.in-Some.is c.in_ok-first.ensures.found) in
    let products = ap (λ (w : Walk). w.products) e ∙ found.0 in
    let feasible = subst (IsFeasibleBest r) (sym (ap (λ (w : Walk). w.best) e)) found in
    record {
      same = refl;
      empty = ap (λ (w : Walk). w.stack) e;
      progress = progress_starts r (Covers r) c.in_ok-walker.walker products feasible;
    }

pub loop-task-preserved : goal.loop-task-preserved
loop-task-preserved g c =
    let r : Rules = g.T.Goal.rules c.greedy.new.goal in
    let i = c.loop-task.invariant in
    let w = c.loop-task.walker in
    let is : c.start.new.self ≡ with_stack w (task_of r c.loop-task.task ∷ []) =
    c.start.ensures.task ∙ ap (λ x. with_stack w (task_of (g.T.Goal.rules x) c.loop-task.task ∷ [])) i.same in
    let best = subst (λ x. IsFeasibleBest (g.T.Goal.rules x) c.run.new.walker.best) i.same c.run.ensures.best in
    record {
      same = c.run.ensures.same ∙ i.same;
      empty = c.run.ensures.empty;
      progress = progress_more r (Covers r) c.loop-task.task w c.start.new.self c.run.new.walker i.progress i.empty is
          (subst (λ x. (y : List Bool) → (g.T.Goal.rules x).Feasible y → Has (g.T.Goal.rules x) c.start.new.self y → Has (g.T.Goal.rules x) c.run.new.walker y)
          i.same c.run.ensures.kept)
          best c.run.ensures.products;
    }

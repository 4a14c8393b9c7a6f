use Rattle.std.proofs.Common.{refl, ap, sym, subst, ◌∙◌, arith}
use Rattle.tree_search.specs.Goals.{Rules, IsLawful}
use Rattle.tree_search.specs.Tasks.{tasks_of}
use Rattle.tree_search.specs.Progress.{IsFeasibleBest}
use Rattle.tree_search.specs.AnswerRanges.{AnswersInRange}
use Rattle.worker_rounds.specs.Rounds.{IsBacked, ClaimsIfIdle, TakesNode}
use Rattle.worker_rounds.proofs.RoundLemmas.{after_none, after_node, after_all, claim_more, ended_idle}
use Rattle.worker_rounds.proofs.round.work_round.Goals as goal

pub loop-taken-init : goal.loop-taken-init
loop-taken-init g c = record {
  same = refl;
  of = c.requires.desk;
  after = after_none (g.T.Goal.rules c.args.goal.now) _ _ _ _ refl c.requires.feasible c.requires.told;
}

pub claim_task-requires-clause-tasks : goal.claim_task-requires-clause-tasks
claim_task-requires-clause-tasks g c = c.requires.tasks ∙ ap (λ x. tasks_of (g.T.Goal.rules x).products) (sym c.loop-taken.invariant.same)

pub claim_task-requires-clause-products : goal.claim_task-requires-clause-products
claim_task-requires-clause-products g c =
    c.loop-taken.invariant.after.under.products ∙ (c.requires.products ∙ ap (λ x. (g.T.Goal.rules x).products) (sym c.loop-taken.invariant.same))

pub returns-then-idle-clause-round : goal.returns-then-idle-clause-round
returns-then-idle-clause-round g c =
    let r : Rules = g.T.Goal.rules c.args.goal.now in
    let i = c.loop-taken.invariant in
    let claimed = subst (λ x. ClaimsIfIdle (g.T.Goal.rules x) c.loop-taken.place.view c.claim_task.new.place.view c.loop-taken.walker c.claim_task.new.walker) i.same c.claim_task.ensures.claimed in
    ended_idle r c.args.desk.now c.args.place.now c.loop-taken.place c.claim_task.new.place c.args.walker.now c.loop-taken.walker c.claim_task.new.walker
    i.after.under c.requires.desk i.of c.claim_task.ensures.desk c.requires.tasks claimed (c.idle.ensures.empty.0 c.if-idle.true)

pub returns-then-idle-clause-same : goal.returns-then-idle-clause-same
returns-then-idle-clause-same g c = c.loop-taken.invariant.same

pub take_node-requires-clause-products : goal.take_node-requires-clause-products
take_node-requires-clause-products g c =
    let i = c.loop-taken.invariant in
    let claimed = subst (λ x. ClaimsIfIdle (g.T.Goal.rules x) c.loop-taken.place.view c.claim_task.new.place.view c.loop-taken.walker c.claim_task.new.walker) i.same c.claim_task.ensures.claimed in
    let u = claim_more (g.T.Goal.rules c.args.goal.now) _ _ _ _ _ i.after.under i.of.1 _ _ c.requires.tasks claimed in
    u.products ∙ (c.requires.products ∙ ap (λ x. (g.T.Goal.rules x).products) (sym i.same))

pub take_node-requires-clause-answers : goal.take_node-requires-clause-answers
take_node-requires-clause-answers g c = subst (λ x. AnswersInRange (g.T.Goal.rules x)) (sym c.loop-taken.invariant.same) c.requires.answers

pub take_node-requires-clause-feasible : goal.take_node-requires-clause-feasible
take_node-requires-clause-feasible g c =
    let i = c.loop-taken.invariant in
    let claimed = subst (λ x. ClaimsIfIdle (g.T.Goal.rules x) c.loop-taken.place.view c.claim_task.new.place.view c.loop-taken.walker c.claim_task.new.walker) i.same c.claim_task.ensures.claimed in
    let u = claim_more (g.T.Goal.rules c.args.goal.now) _ _ _ _ _ i.after.under i.of.1 _ _ c.requires.tasks claimed in
    subst (λ x. IsFeasibleBest (g.T.Goal.rules x) c.claim_task.new.walker.best) (sym i.same) u.feasible

pub take_node-requires-clause-told : goal.take_node-requires-clause-told
take_node-requires-clause-told g c =
    let i = c.loop-taken.invariant in
    let claimed = subst (λ x. ClaimsIfIdle (g.T.Goal.rules x) c.loop-taken.place.view c.claim_task.new.place.view c.loop-taken.walker c.claim_task.new.walker) i.same c.claim_task.ensures.claimed in
    let u = claim_more (g.T.Goal.rules c.args.goal.now) _ _ _ _ _ i.after.under i.of.1 _ _ c.requires.tasks claimed in
    subst (λ x. IsBacked (g.T.Goal.rules x) c.claim_task.new.place.view.told c.claim_task.new.walker.best) (sym i.same) u.told

pub loop-taken-preserved : goal.loop-taken-preserved
loop-taken-preserved g c =
    let r : Rules = g.T.Goal.rules c.args.goal.now in
    let law : IsLawful r = g.met.T.Goal.lawful c.args.goal.now in
    let i = c.loop-taken.invariant in
    let claimed = subst (λ x. ClaimsIfIdle (g.T.Goal.rules x) c.loop-taken.place.view c.claim_task.new.place.view c.loop-taken.walker c.claim_task.new.walker) i.same c.claim_task.ensures.claimed in
    let u = claim_more r _ _ _ _ _ i.after.under i.of.1 _ _ c.requires.tasks claimed in
    let turned = subst (λ x. TakesNode (g.T.Goal.rules x) c.claim_task.new.place.view c.take_node.new.place.view c.claim_task.new.walker c.take_node.new.walker) i.same c.take_node.ensures.turned in
    record {
      same = c.take_node.ensures.same ∙ i.same;
      of = c.take_node.ensures.desk;
      after = after_node r _ _ _ _ _ _ _ _ law c.requires.products c.claim_task.ensures.desk.1 u turned;
    }

pub returns-clause-round : goal.returns-clause-round
returns-clause-round g c =
    (after_all (g.T.Goal.rules c.args.goal.now) c.loop-taken._taken _ _ _ _ _ c.requires.desk c.loop-taken.invariant.of (omega (arith, c.loop-taken-test.false)) c.loop-taken.invariant.after).0

pub returns-clause-sound : goal.returns-clause-sound
returns-clause-sound g c =
    (after_all (g.T.Goal.rules c.args.goal.now) c.loop-taken._taken _ _ _ _ _ c.requires.desk c.loop-taken.invariant.of (omega (arith, c.loop-taken-test.false)) c.loop-taken.invariant.after).1

pub returns-clause-same : goal.returns-clause-same
returns-clause-same g c = c.loop-taken.invariant.same

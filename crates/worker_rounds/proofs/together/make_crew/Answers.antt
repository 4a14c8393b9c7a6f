use Rattle.std.proofs.Common.{rules, ap, subst, sym, ◌≡◌, ◌∙◌, [], List, arith}
use Rattle.tree_search.specs.Goals.{IsFeasibleFor}
use Rattle.shared_best.specs.declared.view.View.{View}
use Rattle.shared_best.specs.Views.{after_split}
use Rattle.worker_rounds.specs.declared.crew.Worker.{Worker}
use Rattle.worker_rounds.specs.Rounds.{IsBacked}
use Rattle.worker_rounds.specs.Crews.{Each, IsMember, HasNoClaims, shares}
use Rattle.worker_rounds.proofs.ListLemmas.{each_push}
use Rattle.worker_rounds.proofs.CrewLemmas.{shares_push, fresh_member}
use Rattle.worker_rounds.proofs.together.make_crew.Goals as goal

pub loop-number-preserved : goal.loop-number-preserved
loop-number-preserved g c =
    let i = c.loop-number.invariant in
    let W = Worker g.row.T.Denot in
    let w : W = record { number = c.loop-number.number; place = c.tell_best.new.place; walker = c.in_ok-walker.walker; goal = c.in_ok-goal.goal } in
    let F : W → Type 0 = IsMember g.T.Goal.rules c.args.goal.now c.args.desk.now in
    let left : c.split-place.new.place.view.share ≡ (after_split c.loop-number.place.view).share = ap (λ (v : View). v.share) c.split-place.ensures.left in
    let right : c.tell_best.new.place.view.share ≡ 1 = c.tell_best.ensures.share ∙ ap (λ (v : View). v.share) c.split-place.ensures.right in
    let claims : c.tell_best.new.place.view.claims ≡ [] = c.tell_best.ensures.claims ∙ ap (λ (v : View). v.claims) c.split-place.ensures.right in
    let same : c.in_ok-goal.goal ≡ c.args.goal.now = search rules in
    let feasible = subst (IsFeasibleFor (g.T.Goal.rules c.args.goal.now)) (sym c.in_ok-copy.ensures) c.requires.first in
    let told = subst (λ x. IsBacked (g.T.Goal.rules x) c.tell_best.new.place.view.told c.in_ok-walker.walker.best) same c.tell_best.ensures.told in
    let fit : F w = fresh_member g.T.Goal.rules c.args.goal.now c.args.desk.now w _ same (search rules) feasible c.in_ok-walker.ensures told in
    record {
      of = search rules;
      claims = search rules;
      told = search rules;
      share = omega arith;
      crew = subst (Each F) (sym c.push_reserved.ensures.items) (each_push F _ w i.crew fit);
      nothing = subst (λ (l : List W). Each HasNoClaims l) (sym c.push_reserved.ensures.items) (each_push HasNoClaims _ w i.nothing claims);
      count = search rules;
      room = search rules;
      shares = let e = ap shares c.push_reserved.ensures.items in let s = shares_push c.loop-number.crew.items w in omega (arith, left, right, i.shares);
    }

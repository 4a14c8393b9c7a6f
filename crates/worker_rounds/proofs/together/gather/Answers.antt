use Rattle.std.proofs.Common.{ap, refl, sym, subst, ◌∙◌, ◌≡◌, ◌+◌, List, inl, inr, arith}
use Rattle.shared_best.specs.declared.view.View.{View}
use Rattle.worker_rounds.specs.declared.crew.Worker.{Worker}
use Rattle.worker_rounds.specs.Crews.{Each, IsMember, IsWorkerAtRest, shares}
use Rattle.worker_rounds.specs.Gathering.{AreSettled}
use Rattle.tree_search.specs.Rooms.{best_of}
use Rattle.worker_rounds.proofs.ListLemmas.{each_last}
use Rattle.worker_rounds.proofs.CrewLemmas.{shares_push}
use Rattle.worker_rounds.proofs.GatherLemmas.{crew_settles, merged_feasible, told_merged, settles_more, done_both}
use Rattle.worker_rounds.proofs.together.gather.Goals as goal

pub loop-worker-init : goal.loop-worker-init
loop-worker-init g c = record {
  of = c.requires.desk;
  fit = c.requires.crew.each;
  rested = c.requires.at_rest;
  shares = refl;
  long = c.requires.best;
  feasible = tt;
  told = c.requires.place.1;
  done = inr c.requires.some;
  claims = crew_settles (g.T.Goal.rules c.args.goal.now) c.args.place.now.view _ c.requires.place.0 c.requires.crew.covered c.requires.at_rest;
}

pub join-requires : goal.join-requires
join-requires g c =
    let F : Worker g.row.T.Denot → Type 0 = IsMember g.T.Goal.rules c.args.goal.now c.args.desk.now in
    let w = (each_last F c.pop.new.self.items c.in-Some.worker (subst (Each F) c.in-Some.ensures.items c.loop-worker.invariant.fit)).1 in
    record { desk = (c.loop-worker.invariant.of, w.place) }

pub merge_best-found-requires-clause-feasible : goal.merge_best-found-requires-clause-feasible
merge_best-found-requires-clause-feasible g c =
    let F : Worker g.row.T.Denot → Type 0 = IsMember g.T.Goal.rules c.args.goal.now c.args.desk.now in
    (each_last F c.pop.new.self.items c.in-Some.worker (subst (Each F) c.in-Some.ensures.items c.loop-worker.invariant.fit)).1.feasible

pub loop-worker-preserved : goal.loop-worker-preserved
loop-worker-preserved g c =
    let r = g.T.Goal.rules c.args.goal.now in
    let i = c.loop-worker.invariant in
    let F : Worker g.row.T.Denot → Type 0 = IsMember g.T.Goal.rules c.args.goal.now c.args.desk.now in
    let fits = each_last F c.pop.new.self.items c.in-Some.worker (subst (Each F) c.in-Some.ensures.items i.fit) in
    let rests = each_last IsWorkerAtRest c.pop.new.self.items c.in-Some.worker (subst (λ (l : List (Worker g.row.T.Denot)). Each IsWorkerAtRest l) c.in-Some.ensures.items i.rested) in
    let w = fits.1 in
    let claims = subst (AreSettled r c.loop-worker.place.view (best_of c.loop-worker.found c.loop-worker.best)) c.in-Some.ensures.items i.claims in
    let sum = ap shares c.in-Some.ensures.items in
    let two = shares_push c.pop.new.self.items c.in-Some.worker in
    let here : c.join.new.place.view.share ≡ c.loop-worker.place.view.share + c.in-Some.worker.place.view.share = ap (λ (v : View). v.share) c.join.ensures.both in
    let merged = c.merge_best-found.ensures.merged in
    record {
      of = c.join.ensures.desk;
      fit = fits.0;
      rested = rests.0;
      shares = omega (arith, sum, two, here, i.shares);
      long = c.merge_best-found.ensures.long;
      feasible = merged_feasible r _ _ _ w.feasible i.feasible merged;
      told = told_merged r c.loop-worker.place.view c.in-Some.worker.place.view c.join.new.place.view _ _ _ c.join.ensures.both w.feasible i.feasible merged i.told w.told;
      done = inl (done_both c.loop-worker.place.view c.in-Some.worker.place.view c.join.new.place.view c.join.ensures.both (w.place.1 ∙ sym i.of.1) rests.1.1);
      claims = settles_more r c.loop-worker.place.view c.join.new.place.view _ _ _ c.in-Some.worker c.join.ensures.both w.feasible i.feasible merged claims;
    }

use Rattle.std.proofs.Common.{rules, refl, ◌≡◌, ◌<◌, List, length, drop, sym, subst, ◌∙◌, None, Some, arith}
use Rattle.tree_search.specs.Goals.{Rules}
use Rattle.tree_search.specs.Tasks.{tasks_of}
use Rattle.tree_search.specs.Rooms.{best_of}
use Rattle.worker_rounds.specs.declared.crew.Worker.{Worker}
use Rattle.worker_rounds.specs.Crews.{Each, AnyOf, HasProducts, IsWorkerBusy, IsReady, CrewRound, IsCrew, shares}
use Rattle.worker_rounds.proofs.MeasureLemmas.{weights}
use Rattle.worker_rounds.proofs.CrewLemmas.{fresh_crew, crew_ready, crew_products, round_crew, round_less, round_shares, round_length}
use Rattle.worker_rounds.proofs.GatherLemmas.{top_of, lent}
use Rattle.worker_rounds.proofs.together.search_from.Goals as goal

pub loop-desk-init : goal.loop-desk-init
loop-desk-init g c = record {
  crew = fresh_crew g.T.Goal.rules c.args.goal.now c.in_ok-desk.desk c.in_ok-crew.crew.items c.in_ok-crew.ensures.crew.0 c.in_ok-crew.ensures.crew.1;
  shares = refl;
  some = search rules;
}

pub run_round-requires-clause-ready : goal.run_round-requires-clause-ready
run_round-requires-clause-ready g c κs within =
    let few : c.in_ok-desk.desk.tasks ≡ tasks_of (g.T.Goal.rules c.args.goal.now).products = search rules in
    subst (λ (l : List (Worker g.row.T.Denot)). Each (IsReady g.T.Goal.rules c.in_ok-desk.desk) l) (sym c.as_mut_slice.ensures.value)
    (crew_ready g.T.Goal.rules c.args.goal.now c.in_ok-desk.desk few c.requires.answers c.loop-desk.crew.items c.loop-desk.invariant.crew)

pub run_round-requires-clause-products : goal.run_round-requires-clause-products
run_round-requires-clause-products g c κs within =
    let n = (g.T.Goal.rules c.args.goal.now).products in (
      n,
      subst (λ (l : List (Worker g.row.T.Denot)). Each (HasProducts n) l) (sym c.as_mut_slice.ensures.value)
          (crew_products g.T.Goal.rules c.args.goal.now c.in_ok-desk.desk c.loop-desk.crew.items c.loop-desk.invariant.crew),
    )

pub loop-desk-smaller : goal.loop-desk-smaller
loop-desk-smaller g c =
    let W = Worker g.row.T.Denot in
    let items = c.loop-desk.crew.items in
    let news = c.run_round.new.crew in
    let desk = c.in_ok-desk.desk in
    let n = (g.T.Goal.rules c.args.goal.now).products in
    let busy = subst (λ (l : List W). AnyOf IsWorkerBusy l) c.as_slice.ensures.value (c.is_over.ensures.busy c.loop-desk-test.true) in
    let o = subst (λ (l : List W). CrewRound g.T.Goal.rules desk l news) c.as_mut_slice.ensures.value c.run_round.ensures.round in
    lent (λ (l : List W). weights desk.tasks n l < weights desk.tasks n items) c.loop-desk.crew.len items items news (drop (length news) items) (search rules) refl
    (round_length g.T.Goal.rules c.args.goal.now desk items o.between news c.loop-desk.invariant.crew o.worked o.shared)
    (round_less g.T.Goal.rules c.args.goal.now desk items o.between news c.loop-desk.invariant.crew o.worked o.shared busy)

pub loop-desk-preserved : goal.loop-desk-preserved
loop-desk-preserved g c =
    let W = Worker g.row.T.Denot in
    let i = c.loop-desk.invariant in
    let items = c.loop-desk.crew.items in
    let news = c.run_round.new.crew in
    let desk = c.in_ok-desk.desk in
    let o = subst (λ (l : List W). CrewRound g.T.Goal.rules desk l news) c.as_mut_slice.ensures.value c.run_round.ensures.round in
    let long = round_length g.T.Goal.rules c.args.goal.now desk items o.between news i.crew o.worked o.shared in
    record {
      crew = lent (IsCrew g.T.Goal.rules c.args.goal.now desk) c.loop-desk.crew.len items items news (drop (length news) items) (search rules) refl long
          (round_crew g.T.Goal.rules c.args.goal.now desk items o.between news i.crew o.worked o.shared);
      shares = lent (λ (l : List W). shares l ≡ shares c.in_ok-crew.crew.items) c.loop-desk.crew.len items items news (drop (length news) items) (search rules) refl long
          (round_shares g.T.Goal.rules c.args.goal.now desk items o.between news i.crew o.worked o.shared ∙ i.shares);
      some = i.some;
    }

pub gather-found-requires-clause-some : goal.gather-found-requires-clause-some
gather-found-requires-clause-some g c = c.loop-desk.invariant.some

pub gather-found-requires-clause-crew : goal.gather-found-requires-clause-crew
gather-found-requires-clause-crew g c = c.loop-desk.invariant.crew

pub close-requires-clause-whole : goal.close-requires-clause-whole
close-requires-clause-whole g c = omega (arith, c.loop-desk.invariant.shares, c.gather-found.ensures.place.2, c.in_ok-crew.ensures.shares)

pub returns-then-not-found-clause-top : goal.returns-then-not-found-clause-top
returns-then-not-found-clause-top g c =
    let r : Rules = g.T.Goal.rules c.args.goal.now in
    let e : None ≡ best_of c.gather-found.result c.gather-found.new.best = search rules in
    top_of r c.gather-found.new.place.view _ None _ _ e (search rules) (λ x l. (c.requires.answers.values x l).0) c.gather-found.ensures.place.1
    c.close.ensures.claims c.close.ensures.told c.close.ensures.seen c.gather-found.ensures.feasible c.gather-found.ensures.told c.gather-found.ensures.done

pub returns-clause-top : goal.returns-clause-top
returns-clause-top g c =
    let r : Rules = g.T.Goal.rules c.args.goal.now in
    let e : Some c.gather-found.new.best ≡ best_of c.gather-found.result c.gather-found.new.best = search rules in
    top_of r c.gather-found.new.place.view _ (Some c.gather-found.new.best) _ _ e (search rules) (λ x l. (c.requires.answers.values x l).0) c.gather-found.ensures.place.1
    c.close.ensures.claims c.close.ensures.told c.close.ensures.seen c.gather-found.ensures.feasible c.gather-found.ensures.told c.gather-found.ensures.done

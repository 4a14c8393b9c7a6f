use Rattle.std.proofs.Common.{◌≡◌, ◌+◌, ◌≤◌, ◌⊎◌, true, length}
use Rattle.std.specs.Prelude.{vec_len}
use Rattle.tree_search.specs.Progress.{IsFeasibleBest}
use Rattle.tree_search.specs.Rooms.{best_of}
use Rattle.shared_best.specs.Views.{is_done}
use Rattle.shared_best.specs.Places.{BelongsTo}
use Rattle.worker_rounds.specs.Rounds.{IsBacked}
use Rattle.worker_rounds.specs.Crews.{Each, IsMember, IsWorkerAtRest, shares}
use Rattle.worker_rounds.specs.Gathering.{AreSettled}
use Rattle.worker_rounds.proofs.together.gather.Given as goal

abbrev pub invariant-loop-worker : goal.invariant-loop-worker
invariant-loop-worker g l =
    let r = g.T.Goal.rules l.goal in
    record {
      of : BelongsTo l.place l.desk;
      fit : Each (IsMember g.T.Goal.rules l.goal l.desk) l.crew.items;
      rested : Each IsWorkerAtRest l.crew.items;
      shares : l.place.view.share + shares l.crew.items ≡ l.initial.place.view.share + shares l.initial.crew.items;
      long : length l.best ≡ r.products;
      feasible : IsFeasibleBest r (best_of l.found l.best);
      told : IsBacked r l.place.view.told (best_of l.found l.best);
      done : (is_done l.place.view ≡ true) ⊎ (1 ≤ vec_len l.crew);
      claims : AreSettled r l.place.view (best_of l.found l.best) l.crew.items;
    }

abbrev pub decreases-loop-worker : goal.decreases-loop-worker
decreases-loop-worker g l = vec_len l.crew

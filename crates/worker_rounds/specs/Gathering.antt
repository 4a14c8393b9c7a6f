-- The bests of workers that have ended are brought together. Within the crate.
use Rattle.std.specs.Prelude.{◌≡◌, ◌⊎◌, ℕ, ◌<◌, pos, Bool, Option, Some, None, List}
use Rattle.offer_model.specs.Nodes.{Completes}
use Rattle.tree_search.specs.Goals.{Rules, IsFeasibleFor}
use Rattle.tree_search.specs.Tasks.{tasks_of, task_of}
use Rattle.tree_search.specs.Turns.{IsBestAfter}
use Rattle.tree_search.specs.Progress.{Reaches}
use Rattle.shared_best.specs.declared.view.View.{View}
use Rattle.worker_rounds.specs.declared.crew.Worker.{Worker}
use Rattle.worker_rounds.specs.Rounds.{IsIn}
use Rattle.worker_rounds.specs.Crews.{AnyOf, HasClaim}

-- The best after another worker's best is met, where it has one.
abbrev pub MergesBest : Rules → Option (List Bool) → Option (List Bool) → Option (List Bool) → Type 0
MergesBest r None old new = new ≡ old
MergesBest r (Some x) old new = IsBestAfter r x old new

-- The assortment needs no further search: it is the best or less good, or worth less than the number seen.
abbrev pub Settles : Rules → ℕ → Option (List Bool) → List Bool → Type 0
Settles r seen best y = Reaches r (pos seen) best y

-- So it is with each feasible assortment of the tasks claimed.
abbrev pub SettlesClaims : Rules → View → Option (List Bool) → Type 0
SettlesClaims r v best = (y : List Bool) → IsFeasibleFor r y → (k : ℕ) → k < tasks_of r.products → IsIn k v.claims → Completes (task_of r k) y → Settles r v.seen best y

module _ {T : Type 0} where
  abbrev pub WorkerSettles : Rules → List Bool → Worker T → Type 0
  WorkerSettles r y w = Settles r w.place.view.seen w.walker.best y

  -- What was claimed at the place, or by a worker that is left, is settled by the best, or by a worker that is left.
  abbrev pub AreSettled : Rules → View → Option (List Bool) → List (Worker T) → Type 0
  AreSettled r v best ws = (y : List Bool) → IsFeasibleFor r y → (k : ℕ) → k < tasks_of r.products → IsIn k v.claims ⊎ AnyOf (HasClaim k) ws
      → Completes (task_of r k) y → Settles r v.seen best y ⊎ AnyOf (WorkerSettles r y) ws

-- What each event keeps, so that no feasible assortment is lost, and what an ended world has. Own.
use Rattle.std.specs.Prelude.{◌≡◌, ◌⊎◌, ℕ, ◌<◌, ◌≤◌, ℤ, pos, ◌≤ℤ◌, ◌<ℤ◌, Bool, Option, Some, None, List, length, Any}
use Rattle.std.specs.List.{All}
use Rattle.offer_model.specs.Nodes.{Completes}
use Rattle.tree_search.specs.Goals.{Rules, IsFeasibleFor, IsTop}
use Rattle.tree_search.specs.Tasks.{task_of}
use Rattle.tree_search.specs.Progress.{CompletesSome, Covers, IsFeasibleBest}
use Rattle.tree_search.specs.Worlds.{WorkerData, WorldData}

-- The assortment completes the node of a task that is left.
abbrev pub IsLeftFor : Rules → WorldData → List Bool → Type 0
IsLeftFor r s y = (k : ℕ) × (s.next ≤ k) × (k < s.tasks) × Completes (task_of r k) y

-- The assortment completes a node of the worker's, or the worker's best is the assortment, or better.
abbrev pub HoldsFor : Rules → List Bool → WorkerData → Type 0
HoldsFor r y u = CompletesSome u.stack y ⊎ Covers r u.best y

-- At most the value of the best; 0 where there is none.
abbrev pub IsToldOf : Rules → Option (List Bool) → ℤ → Type 0
IsToldOf r None told = told ≡ pos 0
IsToldOf r (Some x) told = (told ≡ pos 0) ⊎ (told ≤ℤ r.value x)

-- What is known of a worker, where the number is the shared one.
pub record IsCoveredWorker (r : Rules) (shared : ℤ) (u : WorkerData) : Type 0 where
  pub best : IsFeasibleBest r u.best
  pub seen : u.seen ≤ℤ shared
  pub told : u.told ≤ℤ shared
  pub reached : IsToldOf r u.best u.told

-- Each feasible assortment is left, or a worker holds it or a better one, or its value is below the shared number, which is 0 or
-- was told.
pub record Covered (r : Rules) (s : WorldData) : Type 0 where
  pub each : (y : List Bool) → IsFeasibleFor r y → IsLeftFor r s y ⊎ (Any (HoldsFor r y) s.workers ⊎ (r.value y <ℤ s.shared))
  pub workers : All (IsCoveredWorker r s.shared) s.workers
  pub shared : (s.shared ≡ pos 0) ⊎ Any (λ u. u.told ≡ s.shared) s.workers

-- No assortment of the goal's products is worth less than 0.
abbrev pub HasValuesFromZero : Rules → Type 0
HasValuesFromZero r = (x : List Bool) → length x ≡ r.products → pos 0 ≤ℤ r.value x

-- A worker's best is the top of the goal; or no assortment is feasible, and no worker has a best.
abbrev pub HasTop : Rules → WorldData → Type 0
HasTop r s = ((x : List Bool) × IsTop r (Some x) × Any (λ u. u.best ≡ Some x) s.workers) ⊎ (IsTop r None × All (λ u. u.best ≡ None) s.workers)

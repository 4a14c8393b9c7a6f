-- A search by several workers: what they have, the events, and lists of events. Own.
use Rattle.std.specs.Prelude.{◌≡◌, ◌≢◌, ◌⊎◌, ℕ, ◌+◌, ◌<◌, ◌≤◌, ℤ, pos, Bool, Option, Some, None, List, [], ◌∷◌, length, replicate, slice_set, slice_index_or}
use Rattle.std.specs.List.{All}
use Rattle.std.specs.Int.{int_max}
use Rattle.offer_model.specs.declared.node.Mark.{Mark}
use Rattle.tree_search.specs.declared.event.Event.{Event}
use Rattle.tree_search.specs.declared.event.Event.TheVariants.{Take, Look, Work, Tell, Give}
use Rattle.tree_search.specs.Goals.{Rules}
use Rattle.tree_search.specs.Tasks.{tasks_of, task_of}
use Rattle.tree_search.specs.Turns.{Walk, Turn}
use Rattle.tree_search.specs.Gives.{IsGiven}

-- The nodes that a worker has yet to take, the next one first, its best assortment, and the numbers that it saw and told last.
pub record WorkerData : Type 0 where
  pub stack : List (List Mark)
  pub best : Option (List Bool)
  pub seen : ℤ
  pub told : ℤ

-- The number that the workers share, the next task, the number of tasks, and the workers.
pub record WorldData : Type 0 where
  pub shared : ℤ
  pub next : ℕ
  pub tasks : ℕ
  pub workers : List WorkerData

-- A worker that has done nothing.
abbrev pub new_worker : WorkerData
new_worker = record { stack = []; best = None; seen = pos 0; told = pos 0 }

abbrev pub start_of : ℕ → ℕ → WorldData
start_of tasks workers = record { shared = pos 0; next = 0; tasks = tasks; workers = replicate workers new_worker }

-- The worker of a number; where the number names none, one that has done nothing.
abbrev pub worker_at : WorldData → ℕ → WorkerData
worker_at s w = slice_index_or s.workers w new_worker

-- ---- What an event changes.

abbrev pub with_nodes : List (List Mark) → WorkerData → WorkerData
with_nodes stack u = record u { stack = stack }

abbrev pub with_seen : ℤ → WorkerData → WorkerData
with_seen z u = record u { seen = z }

abbrev pub with_told : ℤ → WorkerData → WorkerData
with_told z u = record u { told = z }

-- The worker's nodes and best as those of a walker.
abbrev pub walk_at : ℕ → WorkerData → Walk
walk_at n u = record { stack = u.stack; best = u.best; products = n }

abbrev pub with_walk : Walk → WorkerData → WorkerData
with_walk v u = record { stack = v.stack; best = v.best; seen = u.seen; told = u.told }

-- One turn of the worker's, by the number that it saw.
abbrev pub IsTurned : Rules → WorkerData → WorkerData → Type 0
IsTurned r u v = (w : Walk) × Turn r u.seen (walk_at r.products u) w × (v ≡ with_walk w u)

-- The bottom node of the one becomes the other's only node.
abbrev pub Gives : ℕ → WorkerData → WorkerData → WorkerData → WorkerData → Type 0
Gives n one other new_one new_other =
    (v : Walk) × (w : Walk) × IsGiven (walk_at n one) (walk_at n other) v w × (new_one ≡ with_walk v one) × (new_other ≡ with_walk w other)

abbrev pub with_worker : WorldData → ℕ → WorkerData → WorldData
with_worker s w u = record s { workers = slice_set s.workers w u }

-- ---- Events.

-- The number names a worker, and the event can come to it.
abbrev pub IsPossible : Event → WorldData → Type 0
IsPossible (Take w) s = (w < length s.workers) × ((worker_at s w).stack ≡ []) × (s.next < s.tasks)
IsPossible (Look w) s = w < length s.workers
IsPossible (Work w) s = (w < length s.workers) × ((worker_at s w).stack ≢ [])
IsPossible (Tell w) s = (w < length s.workers) × ((worker_at s w).best ≢ None)
IsPossible (Give w u) s = (w < length s.workers) × (u < length s.workers) × (w ≢ u) × ((worker_at s w).stack ≢ []) × ((worker_at s u).stack ≡ [])

-- What an event that is possible leads to.
abbrev pub LeadsTo : Rules → Event → WorldData → WorldData → Type 0
LeadsTo r (Take w) s t =
    t ≡ record (with_worker s w (with_nodes (task_of r s.next ∷ []) (worker_at s w))) { next = s.next + 1 }
LeadsTo r (Look w) s t = t ≡ with_worker s w (with_seen s.shared (worker_at s w))
LeadsTo r (Work w) s t = (u : WorkerData) × IsTurned r (worker_at s w) u × (t ≡ with_worker s w u)
LeadsTo r (Tell w) s t = (x : List Bool) × ((worker_at s w).best ≡ Some x)
    × (t ≡ record (with_worker s w (with_told (r.value x) (worker_at s w))) { shared = int_max s.shared (r.value x) })
LeadsTo r (Give w u) s t = (v : WorkerData) × (z : WorkerData) × Gives r.products (worker_at s w) (worker_at s u) v z × (t ≡ with_worker (with_worker s w v) u z)

-- An event that isn't possible changes nothing.
abbrev pub Happens : Rules → Event → WorldData → WorldData → Type 0
Happens r e s t = (IsPossible e s × LeadsTo r e s t) ⊎ ((IsPossible e s → ⊥) × (t ≡ s))

-- The events of the list happen one after another.
abbrev pub Runs : Rules → List Event → WorldData → WorldData → Type 0
Runs r [] s t = t ≡ s
Runs r (e ∷ es) s t = (mid : WorldData) × Happens r e s mid × Runs r es mid t

-- ---- Worlds of a goal, and ended ones.

-- Nodes and best have n products.
pub record IsWorkerOf (n : ℕ) (u : WorkerData) : Type 0 where
  pub nodes : All (λ node. length node ≡ n) u.stack
  pub best : (x : List Bool) → u.best ≡ Some x → length x ≡ n

-- The tasks are those of a goal of n products, and all nodes and bests have n products.
pub record IsWorldOf (n : ℕ) (s : WorldData) : Type 0 where
  pub tasks : s.tasks ≡ tasks_of n
  pub workers : All (IsWorkerOf n) s.workers

-- No task is left, and all stacks are empty.
abbrev pub IsEnded : WorldData → Type 0
IsEnded s = (s.tasks ≤ s.next) × All (λ u. u.stack ≡ []) s.workers

-- ---- A give between two workers of a list. Within the crate.

-- The one gives to the other where it has a node and the other has none; else both stay as they are.
abbrev pub GivesOrNot : ℕ → WorkerData → WorkerData → WorkerData → WorkerData → Type 0
GivesOrNot n one other new_one new_other =
    ((one.stack ≢ []) × (other.stack ≡ []) × Gives n one other new_one new_other)
    ⊎ (((one.stack ≡ []) ⊎ (other.stack ≢ [])) × (new_one ≡ one) × (new_other ≡ other))

-- The worker of the one number gives to that of the other or not, and no other worker changes.
abbrev pub GivesBetween : ℕ → ℕ → ℕ → List WorkerData → List WorkerData → Type 0
GivesBetween n w u old new = (one : WorkerData) × (other : WorkerData)
    × GivesOrNot n (slice_index_or old w new_worker) (slice_index_or old u new_worker) one other × (new ≡ slice_set (slice_set old w one) u other)

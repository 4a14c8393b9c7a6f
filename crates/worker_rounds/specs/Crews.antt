-- Workers side by side: their rounds, and the nodes that they give each other. Own.
use Rattle.std.specs.Prelude.{◌≡◌, ◌≢◌, ◌⊎◌, ℕ, ◌+◌, ◌<◌, ◌≤◌, Bool, List, [], ◌∷◌, length}
use Rattle.offer_model.specs.Nodes.{Completes}
use Rattle.tree_search.specs.Goals.{Rules, IsFeasibleFor}
use Rattle.tree_search.specs.Tasks.{tasks_of, task_of}
use Rattle.tree_search.specs.Turns.{IsSound}
use Rattle.tree_search.specs.Sizes.{size_of}
use Rattle.tree_search.specs.Progress.{CompletesSome, IsFeasibleBest}
use Rattle.shared_best.specs.Places.{DeskData, BelongsTo}
use Rattle.worker_rounds.specs.declared.crew.Worker.{Worker}
use Rattle.tree_search.specs.AnswerRanges.{AnswersInRange}
use Rattle.worker_rounds.specs.Rounds.{IsBacked, IsIn, HasAbove, IsBusy, IsAtRest, Round}

module _ {A : Type 0} where
  abbrev pub Each : (A → Type 0) → List A → Type 0
  Each P [] = Unit {0}
  Each P (x ∷ xs) = P x × Each P xs

  abbrev pub AnyOf : (A → Type 0) → List A → Type 0
  AnyOf P [] = ⊥
  AnyOf P (x ∷ xs) = P x ⊎ AnyOf P xs

  -- The lists are as long as each other, and what stands at the same position is related.
  abbrev pub Pairwise : (A → A → Type 0) → List A → List A → Type 0
  Pairwise P [] [] = Unit {0}
  Pairwise P [] (y ∷ ys) = ⊥
  Pairwise P (x ∷ xs) [] = ⊥
  Pairwise P (x ∷ xs) (y ∷ ys) = P x y × Pairwise P xs ys

module _ {T : Type 0} where
  abbrev pub IsWorkerBusy : Worker T → Type 0
  IsWorkerBusy w = IsBusy w.place w.walker

  abbrev pub IsWorkerAtRest : Worker T → Type 0
  IsWorkerAtRest w = IsAtRest w.place w.walker

  abbrev pub shares : List (Worker T) → ℕ
  shares [] = 0
  shares (w ∷ ws) = w.place.view.share + shares ws

  abbrev pub sizes : List (Worker T) → ℕ
  sizes [] = 0
  sizes (w ∷ ws) = size_of w.walker.stack + sizes ws

  -- The assortment completes a node of the worker's stack.
  abbrev pub HasOnStack : List Bool → Worker T → Type 0
  HasOnStack y w = CompletesSome w.walker.stack y

  abbrev pub HasClaim : ℕ → Worker T → Type 0
  HasClaim k w = IsIn k w.place.view.claims

  abbrev pub WorkerHas : Rules → List Bool → Worker T → Type 0
  WorkerHas r y w = HasAbove r w.place.view.seen w.walker y

  -- Each feasible assortment of a claimed task completes a node on some stack, or is some worker's best or less good, or is
  -- worth less than some worker's number seen.
  abbrev pub CoversClaims : Rules → List (Worker T) → Type 0
  CoversClaims r ws = (y : List Bool) → IsFeasibleFor r y → (k : ℕ) → k < tasks_of r.products → AnyOf (HasClaim k) ws → Completes (task_of r k) y → AnyOf (WorkerHas r y) ws

  abbrev pub HasNoClaims : Worker T → Type 0
  HasNoClaims w = w.place.view.claims ≡ []

  -- ---- Nodes given.

  abbrev pub HasProducts : ℕ → Worker T → Type 0
  HasProducts n w = w.walker.products ≡ n

  abbrev pub HasNodes : Worker T → Type 0
  HasNodes w = w.walker.stack ≢ []

  abbrev pub HasNoTwoNodes : Worker T → Type 0
  HasNoTwoNodes w = length w.walker.stack ≤ 1

  -- No worker is idle while another has two nodes or more.
  abbrev pub IsEven : List (Worker T) → Type 0
  IsEven ws = Each HasNoTwoNodes ws ⊎ Each HasNodes ws

  -- All but the stack is as it was. A worker with nodes keeps one, and one that hasn't two is given no second.
  pub record SameButNodes (v w : Worker T) : Type 0 where
    pub number : w.number ≡ v.number
    pub place : w.place ≡ v.place
    pub goal : w.goal ≡ v.goal
    pub best : w.walker.best ≡ v.walker.best
    pub products : w.walker.products ≡ v.walker.products
    pub sound : IsSound v.walker → IsSound w.walker
    pub some : HasNodes v → HasNodes w
    pub few : HasNoTwoNodes v → HasNoTwoNodes w

  -- Nodes went from stacks to other stacks, and nothing else changed.
  pub record SharesNodes (ws us : List (Worker T)) : Type 0 where
    pub same : Pairwise SameButNodes ws us
    pub stacks : (y : List Bool) → AnyOf (HasOnStack y) ws → AnyOf (HasOnStack y) us
    pub sizes : sizes us ≡ sizes ws

module _ {T : Type 0} (rules : T → Rules) where
  -- A worker before a round.
  pub record IsReady (desk : DeskData) (w : Worker T) : Type 0 where
    pub place : BelongsTo w.place desk
    pub tasks : desk.tasks ≡ tasks_of (rules w.goal).products
    pub answers : AnswersInRange (rules w.goal)
    pub products : w.walker.products ≡ (rules w.goal).products
    pub feasible : IsFeasibleBest (rules w.goal) w.walker.best
    pub told : IsBacked (rules w.goal) w.place.view.told w.walker.best

  -- A round of one worker.
  pub record WorkerRound (desk : DeskData) (v w : Worker T) : Type 0 where
    pub number : w.number ≡ v.number
    pub goal : w.goal ≡ v.goal
    pub round : Round (rules v.goal) desk v.place w.place v.walker w.walker
    pub sound : IsSound w.walker

  -- A round of all workers, and the nodes given after it.
  pub record CrewRound (desk : DeskData) (us ws : List (Worker T)) : Type 0 where
    pub between : List (Worker T)
    pub worked : Pairwise (WorkerRound desk) us between
    pub shared : SharesNodes between ws
    pub even : IsEven ws

  -- A worker of a crew that searches the goal, between rounds.
  pub record IsMember (g : T) (desk : DeskData) (w : Worker T) : Type 0 where
    pub goal : w.goal ≡ g
    pub place : BelongsTo w.place desk
    pub products : w.walker.products ≡ (rules g).products
    pub feasible : IsFeasibleBest (rules g) w.walker.best
    pub told : IsBacked (rules g) w.place.view.told w.walker.best
    pub sound : IsSound w.walker

  -- A crew between rounds.
  pub record IsCrew (g : T) (desk : DeskData) (ws : List (Worker T)) : Type 0 where
    pub each : Each (IsMember g desk) ws
    pub covered : CoversClaims (rules g) ws

-- How far a search has come. Within the crate.
use Rattle.std.specs.Prelude.{◌≡◌, ◌⊎◌, ⊤, ℕ, ◌<◌, ◌≤◌, ℤ, pos, ◌+ℤ◌, ◌≤ℤ◌, ◌<ℤ◌, Bool, Option, Some, None, List, [], ◌∷◌}
use Rattle.offer_model.specs.declared.node.Mark.{Mark}
use Rattle.offer_model.specs.Nodes.{Completes}
use Rattle.tree_search.specs.Goals.{Rules, IsFeasibleFor, IsBetter}
use Rattle.tree_search.specs.Tasks.{tasks_of, task_of}
use Rattle.tree_search.specs.Turns.{Walk, least}

-- The assortment completes a node of the stack.
abbrev pub CompletesSome : List (List Mark) → List Bool → Type 0
CompletesSome [] y = ⊥
CompletesSome (node ∷ rest) y = Completes node y ⊎ CompletesSome rest y

-- The best is the assortment, or better.
abbrev pub Covers : Rules → Option (List Bool) → List Bool → Type 0
Covers r None y = ⊥
Covers r (Some best) y = (best ≡ y) ⊎ IsBetter r best y

-- The best is worth as much as the assortment, or more, or the assortment doesn't reach the floor.
abbrev pub Matches : Rules → ℤ → Option (List Bool) → List Bool → Type 0
Matches r floor None y = r.value y <ℤ floor
Matches r floor (Some best) y = (r.value y ≤ℤ r.value best) ⊎ (r.value y <ℤ floor)

-- The walker has yet to meet the assortment, or its best does for it, by covering or by matching it.
abbrev pub HasBy : (Option (List Bool) → List Bool → Type 0) → Walk → List Bool → Type 0
HasBy Does w y = CompletesSome w.stack y ⊎ Does w.best y

abbrev pub Has : Rules → Walk → List Bool → Type 0
Has r w y = HasBy (Covers r) w y

-- The best covers the assortment, or it is worth less than a number seen.
abbrev pub Reaches : Rules → ℤ → Option (List Bool) → List Bool → Type 0
Reaches r seen best y = Covers r best y ⊎ (r.value y <ℤ seen)

abbrev pub IsFeasibleBest : Rules → Option (List Bool) → Type 0
IsFeasibleBest r None = ⊤
IsFeasibleBest r (Some x) = IsFeasibleFor r x

-- The best's value, or the least number of 128 bits.
abbrev pub IsOwn : Rules → Option (List Bool) → ℤ → Type 0
IsOwn r None seen = seen ≡ least
IsOwn r (Some best) seen = seen ≡ r.value best

-- At most the floor, or at most the best's value and one. No node whose bound is below it has a completion that reaches the
-- floor and is worth more than the best.
abbrev pub IsReached : Rules → ℤ → Option (List Bool) → ℤ → Type 0
IsReached r floor None seen = seen ≤ℤ floor
IsReached r floor (Some best) seen = (seen ≤ℤ floor) ⊎ (seen ≤ℤ (r.value best +ℤ pos 1))

-- The assortment completes the node of a task from `next` on.
abbrev pub IsLeft : Rules → ℕ → List Bool → Type 0
IsLeft r next y = (k : ℕ) × (next ≤ k) × (k < tasks_of r.products) × Completes (task_of r k) y

-- Each feasible assortment is left, or the walker has it.
pub record Progress (r : Rules) (Does : Option (List Bool) → List Bool → Type 0) (next : ℕ) (w : Walk) : Type 0 where
  pub products : w.products ≡ r.products
  pub best : IsFeasibleBest r w.best
  pub each : (y : List Bool) → IsFeasibleFor r y → IsLeft r next y ⊎ HasBy Does w y

-- What one worker does in a round, and what it hands back. Own.
use Rattle.std.specs.Prelude.{◌≡◌, ◌≢◌, ◌⊎◌, ℕ, ◌<◌, ◌≤◌, pos, ◌≤ℤ◌, Bool, true, false, Option, Some, None, List, [], ◌∷◌, ◌++◌}
use Rattle.offer_model.specs.Nodes.{Completes}
use Rattle.tree_search.specs.Goals.{Rules, IsFeasibleFor}
use Rattle.tree_search.specs.Tasks.{tasks_of, task_of}
use Rattle.tree_search.specs.Turns.{Walk, with_stack, Turn, IsSound}
use Rattle.tree_search.specs.Sizes.{size_of}
use Rattle.tree_search.specs.Progress.{CompletesSome, Covers, Reaches, HasBy, IsFeasibleBest}
use Rattle.shared_best.specs.declared.view.View.{View}
use Rattle.shared_best.specs.Views.{any_past, AllBelow, is_done, with_claim}
use Rattle.shared_best.specs.Places.{DeskData, PlaceData, BelongsTo}

-- What a place told is 0, or at most the value of the worker's best.
abbrev pub IsBacked : Rules → ℕ → Option (List Bool) → Type 0
IsBacked r told None = told ≡ 0
IsBacked r told (Some best) = (told ≡ 0) ⊎ (pos told ≤ℤ r.value best)

-- A best is kept, or a better one stands in its place.
abbrev pub KeepsBest : Rules → Option (List Bool) → Option (List Bool) → Type 0
KeepsBest r None new = Unit {0}
KeepsBest r (Some best) new = Covers r new best

abbrev pub IsIn : ℕ → List ℕ → Type 0
IsIn x [] = ⊥
IsIn x (y ∷ ys) = (x ≡ y) ⊎ IsIn x ys

-- The assortment completes the node of a task that was claimed.
abbrev pub CompletesTask : Rules → List ℕ → List Bool → Type 0
CompletesTask r claims y = (k : ℕ) × IsIn k claims × (k < tasks_of r.products) × Completes (task_of r k) y

-- The assortment completes a node of the stack, or is the best or less good, or is worth less than the number seen.
abbrev pub HasAbove : Rules → ℕ → Walk → List Bool → Type 0
HasAbove r seen w y = HasBy (Reaches r (pos seen)) w y

-- Each claim is above all claims before it, and none follows a claim that is no task's.
abbrev pub Follows : ℕ → List ℕ → List ℕ → Type 0
Follows tasks before [] = Unit {0}
Follows tasks before (n ∷ ns) = AllBelow n before × (any_past tasks before ≡ false) × Follows tasks (before ++ n ∷ []) ns

-- There are nodes to take, or tasks may be claimed.
abbrev pub IsBusy : PlaceData → Walk → Type 0
IsBusy p w = (w.stack ≢ []) ⊎ (is_done p.view ≡ false)

-- There is nothing to do.
abbrev pub IsAtRest : PlaceData → Walk → Type 0
IsAtRest p w = (w.stack ≡ []) × (is_done p.view ≡ true)

-- A round of a worker at the desk, from its place p and walker v to q and w.
pub record Round (r : Rules) (desk : DeskData) (p q : PlaceData) (v w : Walk) : Type 0 where
  -- What was claimed in the round.
  pub claims : List ℕ
  -- Nothing is lost of the stack and of the tasks claimed.
  pub covered : (y : List Bool) → IsFeasibleFor r y → CompletesSome v.stack y ⊎ CompletesTask r claims y → HasAbove r q.view.seen w y
  pub kept : KeepsBest r v.best w.best
  pub feasible : IsFeasibleBest r w.best
  pub told : IsBacked r q.view.told w.best
  pub seen : p.view.seen ≤ q.view.seen
  pub products : w.products ≡ v.products
  pub place : BelongsTo q desk
  pub share : q.view.share ≡ p.view.share
  pub all : q.view.claims ≡ p.view.claims ++ claims
  pub follows : Follows desk.tasks p.view.claims claims
  -- The round gets on where there is something to do, and else changes neither the stack nor the claims.
  pub moved : IsBusy p v → (claims ≢ []) ⊎ (size_of w.stack < size_of v.stack)
  pub rested : IsAtRest p v → (w.stack ≡ v.stack) × (q.view.claims ≡ p.view.claims)

-- ---- Its steps. Within the crate.

-- The stack isn't empty, or the place is done.
abbrev pub NeedsNoClaim : View → Walk → Type 0
NeedsNoClaim p w = (w.stack ≢ []) ⊎ (is_done p ≡ true)

-- A claim with an empty stack: of a task, whose node is the stack then, or of none.
pub record Claim (r : Rules) (p q : View) (v w : Walk) : Type 0 where
  pub claim : ℕ
  pub view : q ≡ with_claim p claim
  pub above : AllBelow claim p.claims
  pub free : is_done p ≡ false
  pub empty : v.stack ≡ []
  pub started : ((claim < p.tasks) × (w ≡ with_stack v (task_of r claim ∷ []))) ⊎ ((p.tasks ≤ claim) × (w ≡ v))

-- Nothing is claimed where nothing is needed.
abbrev pub ClaimsIfIdle : Rules → View → View → Walk → Walk → Type 0
ClaimsIfIdle r p q v w = ((q ≡ p) × (w ≡ v) × NeedsNoClaim p v) ⊎ Claim r p q v w

-- A node is taken after a look, and the place tells no more than the best's value.
pub record TakesNode (r : Rules) (p q : View) (v w : Walk) : Type 0 where
  pub turn : Turn r (pos q.seen) v w
  pub was_sound : IsSound v
  pub sound : IsSound w
  pub seen : p.seen ≤ q.seen
  pub claims : q.claims ≡ p.claims
  pub share : q.share ≡ p.share
  pub told : IsBacked r q.told w.best

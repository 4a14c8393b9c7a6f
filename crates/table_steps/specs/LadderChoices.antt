-- What is offered under price ladders: beside them what weighs more than 0, and on each a greatest chain. Own.
use Rattle.std.specs.Prelude.{◌≡◌, ℕ, ◌<◌, ◌≤◌, ◌⊎◌, Bool, true, false, List, All, length, pos, negsuc, ◌+ℤ◌, slice_index}
use lib.IntN.{ℤ}
use Prim.Native.Nat.{zero, suc}
use Rattle.offer_model.specs.declared.node.Mark.{Mark}
use Rattle.offer_model.specs.declared.node.Mark.TheVariants.{In, Out, Open}
use Rattle.offer_model.specs.Assortments.{offers, sum_below}
use Rattle.offer_model.specs.Problems.{ProblemData, product_count, product_at}
use Rattle.offer_model.specs.Limits.{IsFeasible}
use Rattle.offer_model.specs.Nodes.{mark_at, Agrees, Completes}
use Rattle.offer_model.specs.Prices.{Prices, int_sum_below, worth_of}
use Rattle.offer_model.specs.LeafBounds.{Rises, PotentialsFit, potentials_bound, is_limited, ladder_of, ladder_top, most_beside}
use Rattle.linear_step.specs.Closings.{number_bound}
use Rattle.table_steps.specs.LadderRungs.{RungsData, rungs_at}

abbrev pub is_positive : ℤ → Bool
is_positive (pos zero) = false
is_positive (pos (suc n)) = true
is_positive (negsuc n) = false

-- It is In, or Open on no limited ladder with a price above 0.
abbrev pub takes : Mark → Bool → ℤ → Bool
takes In limited z = true
takes Out limited z = false
takes Open true z = false
takes Open false z = is_positive z

-- The assortment offers what is In, and what is Open on no limited ladder with a price above 0.
pub record TakesBeside (p : ProblemData) (node : List Mark) (price : ℕ → ℤ) (x : List Bool) : Type 0 where
  pub each : length x ≡ product_count p
  pub takes : (i : ℕ) → i < product_count p
      → offers x i ≡ takes (mark_at node i) (is_limited p.limits (ladder_of p i)) (price i)

-- Of any two offered products of the ladder with numbers above 0 one rises to the other.
abbrev pub IsChain : ProblemData → List ℕ → ℕ → List Bool → Type 0
IsChain p us ladder x = (i j : ℕ) → i < product_count p → j < product_count p → (i ≡ j → ⊥)
    → ladder_of p i ≡ ladder → ladder_of p j ≡ ladder → 0 < slice_index us i → 0 < slice_index us j
    → offers x i ≡ true → offers x j ≡ true
    → Rises (product_at p i) (product_at p j) ⊎ Rises (product_at p j) (product_at p i)

-- From x to y a chain of the ladder is offered that is worth its greatest number.
pub record HasClimbed (p : ProblemData) (at : Prices) (us : List ℕ) (ladder : ℕ) (x y : List Bool) : Type 0 where
  pub each : length y ≡ length x
  pub others : (i : ℕ) → (ladder_of p i ≡ ladder → ⊥) → offers y i ≡ offers x i
  pub unused : (i : ℕ) → slice_index us i ≡ 0 → offers y i ≡ offers x i
  pub chain : IsChain p us ladder y
  pub worth : worth_of p at y ≡ worth_of p at x +ℤ pos (ladder_top p us ladder (product_count p))

-- What is chosen when a chain is offered on each of the first k ladders.
pub record IsChosen (p : ProblemData) (node : List Mark) (at : Prices) (ladders : List RungsData) (us : List ℕ) (k : ℕ)
    (x : List Bool) : Type 0 where
  pub each : length x ≡ product_count p
  pub agrees : (i : ℕ) → i < product_count p → Agrees (mark_at node i) (offers x i)
  pub only : (i : ℕ) → i < product_count p → mark_at node i ≡ Open → is_limited p.limits (ladder_of p i) ≡ true
      → offers x i ≡ true → 0 < slice_index us i
  pub later : (i : ℕ) → i < product_count p → 0 < slice_index us i
      → ((j : ℕ) → j < k → ladder_of p i ≡ (rungs_at ladders j).ladder → ⊥) → offers x i ≡ false
  pub chains : (j : ℕ) → j < k → IsChain p us (rungs_at ladders j).ladder x
  pub worth : worth_of p at x
      ≡ at.constant
      +ℤ int_sum_below (product_count p) (λ i. most_beside (mark_at node i) (is_limited p.limits (ladder_of p i)) (at.price i))
      +ℤ pos (sum_below k (λ j. ladder_top p us (rungs_at ladders j).ladder (product_count p)))

-- A feasible completion that is worth the bound of the potentials.
pub record IsSolved (p : ProblemData) (node : List Mark) (at : Prices) (us : List ℕ) (x : List Bool) : Type 0 where
  pub fit : PotentialsFit p node at.price us
  pub small : All (λ u. u ≤ number_bound) us
  pub feasible : IsFeasible p x
  pub completes : Completes node x
  pub worth : worth_of p at x ≡ potentials_bound p node us at

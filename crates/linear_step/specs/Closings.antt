-- What closes a node: a clash, or a bound that the node's feasible completions reach. Own.
use Rattle.std.specs.Prelude.{◌≡◌, ◌≢◌, ◌↔◌, ◌⊎◌, ◌≤◌, Bool, List, Some, All, pos, ◌<ℤ◌}
use lib.IntN.{ℤ}
use Rattle.offer_model.specs.declared.node.Mark.{Mark}
use Rattle.offer_model.specs.Problems.{ProblemData}
use Rattle.offer_model.specs.Nodes.{Clashes}
pub use Rattle.offer_model.specs.Ranges.{number_bound}
use Rattle.offer_model.specs.Prices.{Prices, worth_of}
use Rattle.offer_model.specs.LeafBounds.{MultipliersFit, multipliers_bound, shelf_bound, PotentialsFit, potentials_bound}
use Rattle.limit_rules.specs.declared.kind.Kind.{Kind}
use Rattle.limit_rules.specs.declared.kind.Kind.TheVariants as K
use Rattle.limit_rules.specs.Kinds.{kind_of}
use Rattle.linear_step.specs.Answers.{IsGreatest, HasNone}
use Rattle.linear_step.specs.declared.closing.Closing.{Closing}
use Rattle.linear_step.specs.declared.closing.Closing.TheVariants as C

-- The greatest worth of the node's feasible completions, and less than 0 where there are none.
abbrev pub IsTop : ProblemData → Prices → List Mark → ℤ → Type 0
IsTop p at node z =
    ((x : List Bool) × IsGreatest p at node x × (worth_of p at x ≡ z)) ⊎ (HasNone p node × (z <ℤ pos 0))

-- The closing's numbers fit, and its bound is z. A clash has no bound.
abbrev pub HasBound : ProblemData → Prices → List Mark → Closing → ℤ → Type 0
HasBound p at node C.Clash z = ⊥
HasBound p at node (C.Multipliers us) z = MultipliersFit p us.items × (multipliers_bound p node us.items at ≡ z)
HasBound p at node C.Shelf z = shelf_bound p node at ≡ Some z
HasBound p at node (C.Potentials us) z = PotentialsFit p node at.price us.items × (potentials_bound p node us.items at ≡ z)

-- Beside a clash, limits of one kind have closings of one shape.
abbrev pub HasShape : Kind → Closing → Type 0
HasShape k C.Clash = Unit {0}
HasShape K.Free (C.Multipliers us) = Unit {0}
HasShape K.Caps (C.Multipliers us) = Unit {0}
HasShape K.Closure (C.Multipliers us) = Unit {0}
HasShape K.Shelf C.Shelf = Unit {0}
HasShape K.Ladder (C.Potentials us) = Unit {0}
HasShape _ _ = ⊥

-- Each number of a closing is at most so much.
abbrev pub HasSmallNumbers : Closing → Type 0
HasSmallNumbers C.Clash = Unit {0}
HasSmallNumbers (C.Multipliers us) = All (λ u. u ≤ number_bound) us.items
HasSmallNumbers C.Shelf = Unit {0}
HasSmallNumbers (C.Potentials us) = All (λ u. u ≤ number_bound) us.items

-- A clash exactly where the node clashes, else a closing whose bound is the greatest worth.
pub record Closes (p : ProblemData) (at : Prices) (node : List Mark) (closing : Closing) : Type 0 where
  pub shape : HasShape (kind_of p.limits) closing
  pub small : HasSmallNumbers closing
  pub clash : (closing ≡ C.Clash) ↔ Clashes p node
  pub bound : closing ≢ C.Clash → (z : ℤ) × HasBound p at node closing z × IsTop p at node z

-- The nodes along an assortment and beside it, and what closes them. Own.
use Rattle.std.specs.Prelude.{◌≡◌, ℕ, ◌+◌, ◌<◌, ◌≤◌, Bool, true, false, not, List, [], ◌∷◌, length, slice_index_or, slice_set}
use Prim.Native.Nat.{zero, suc}
use Rattle.offer_model.specs.declared.ranges.TheConstants.{MOST_LIMITS}
use Rattle.offer_model.specs.declared.node.Mark.{Mark}
use Rattle.offer_model.specs.declared.node.Mark.TheVariants.{In, Out, Open}
use Rattle.offer_model.specs.Assortments.{offers}
use Rattle.offer_model.specs.Problems.{ProblemData}
use Rattle.offer_model.specs.Prices.{Prices}
use Rattle.linear_step.specs.declared.closing.Closing.{Closing}
use Rattle.linear_step.specs.declared.closing.Closing.TheVariants as C
use Rattle.linear_step.specs.Closings.{Closes}
use Rattle.proof_lines.specs.declared.line.Shape.TheVariants as S
use Rattle.proof_lines.specs.Lines.{LineData, line, IsLine}

-- ---- Nodes.

-- The mark of a product that is offered, or isn't.
abbrev pub mark_of : Bool → Mark
mark_of true = In
mark_of false = Out

-- The node that agrees with x on the products below k, and in which the others are Open.
abbrev pub path_node : List Bool → ℕ → List Mark
path_node [] k = []
path_node (b ∷ x) zero = Open ∷ path_node x zero
path_node (b ∷ x) (suc k) = mark_of b ∷ path_node x k

-- The node that agrees with x on the products below k, and not on product k.
abbrev pub side_node : List Bool → ℕ → List Mark
side_node x k = slice_set (path_node x k) k (mark_of (not (offers x k)))

-- ---- Leaves.

-- The line that says what closes a node.
abbrev pub leaf_line : Closing → LineData
leaf_line C.Clash = line S.Clash []
leaf_line (C.Multipliers us) = line S.Multipliers us.items
leaf_line C.Shelf = line S.Shelf []
leaf_line (C.Potentials us) = line S.Potentials us.items

-- The line can be printed: one of at most so many numbers as there may be limits.
pub record IsPrintable (l : LineData) : Type 0 where
  pub grammar : IsLine l.shape l.numbers
  pub few : length l.numbers ≤ MOST_LIMITS

abbrev pub leaf_at : List LineData → ℕ → LineData
leaf_at leaves k = slice_index_or leaves k (line S.Clash [])

-- The line says what closes the node.
abbrev pub Says : ProblemData → Prices → List Mark → LineData → Type 0
Says p at node l = (closing : Closing) × Closes p at node closing × (leaf_line closing ≡ l)

-- For each product below the end what closes the node beside the path there, and last what closes the path's own node.
pub record AreLeaves (p : ProblemData) (at : Prices) (x : List Bool) (end : ℕ) (leaves : List LineData) : Type 0 where
  pub each : length leaves ≡ end + 1
  pub sides : (k : ℕ) → k < end → Says p at (side_node x k) (leaf_at leaves k)
  pub last : Says p at (path_node x end) (leaf_at leaves end)

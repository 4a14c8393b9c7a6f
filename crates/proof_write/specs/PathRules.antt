-- The rule of a path along an assortment. Own.
use Rattle.std.specs.Prelude.{◌≡◌, ◌≢◌, ℕ, ◌+◌, ◌<◌, ◌≤◌, Bool, List, length}
use Rattle.offer_model.specs.declared.node.Mark.{Mark}
use Rattle.offer_model.specs.declared.node.Mark.TheVariants.{Open}
use Rattle.offer_model.specs.Assortments.{offers}
use Rattle.offer_model.specs.Nodes.{mark_at}
use Rattle.proof_lines.specs.declared.line.Line.{Line}
use Rattle.proof_lines.specs.Lines.{LineData, line_text}
use Rattle.proof_lines.specs.Writing.{offered_end}
use Rattle.proof_tree.specs.Pens.{lines_data}
use Rattle.proof_write.specs.Leaves.{mark_of, leaf_at, IsPrintable}

-- Of the products below the end, k is the first that the node doesn't settle as x does, or k is the end.
pub record IsTurn (x : List Bool) (node : List Mark) (end k : ℕ) : Type 0 where
  pub inside : k ≤ end
  pub along : (i : ℕ) → i < k → mark_at node i ≡ mark_of (offers x i)
  pub off : k < end → mark_at node k ≢ mark_of (offers x k)

-- The node settles the products below this depth and no others up to the end, all but the last of them as x does.
pub record IsNear (x : List Bool) (node : List Mark) (end depth : ℕ) : Type 0 where
  pub inside : depth ≤ end
  pub along : (i : ℕ) → i + 1 < depth → mark_at node i ≡ mark_of (offers x i)
  pub settled : (i : ℕ) → i < depth → mark_at node i ≢ Open
  pub others : (i : ℕ) → depth ≤ i → i < end → mark_at node i ≡ Open

-- What contracts see of the rule: the assortment, and the leaves beside the path and at its end.
pub record PathData : Type 0 where
  pub best : List Bool
  pub leaves : List LineData

-- The branch of a node on the path is on the first product that it doesn't settle.
abbrev pub PathBranch : PathData → List Mark → ℕ → Type 0
PathBranch r node i = IsTurn r.best node (offered_end r.best) i

-- A node beside the path, and the last one on it, has its leaf.
abbrev pub PathLeaf : PathData → List Mark → List ℕ → Type 0
PathLeaf r node l = (k : ℕ) × IsTurn r.best node (offered_end r.best) k × (k < offered_end r.best → mark_at node k ≢ Open)
    × (l ≡ line_text (leaf_at r.leaves k).shape (leaf_at r.leaves k).numbers)

-- There is a leaf for each product up to the last that is offered, and one more.
pub record IsPathRule (x : List Bool) (leaves : List Line) (end : ℕ) : Type 0 where
  pub last : end ≡ offered_end x
  pub each : length leaves ≡ end + 1
  pub printable : (k : ℕ) → k < length leaves → IsPrintable (leaf_at (lines_data leaves) k)

-- Trees whose leaves are lines, their texts, and the lines that a reader of trees still waits for. Own.
use Rattle.std.specs.Prelude.{◌≡◌, ℕ, ◌↔◌, List, [], ◌∷◌, slice_set, Option, IfSome, IfNone}
use Rattle.offer_model.specs.declared.node.Mark.{Mark}
use Rattle.offer_model.specs.declared.node.Mark.TheVariants.{In, Out, Open}
use Rattle.offer_model.specs.Nodes.{mark_at}
use Rattle.proof_lines.specs.declared.line.Shape.{Shape}
use Rattle.proof_lines.specs.declared.line.Shape.TheVariants as S
use Rattle.proof_lines.specs.Lines.{line_text, IsLine, IsLineText}

-- The bytes are the text of this line.
abbrev pub Spells : Shape → List ℕ → List ℕ → Type 0
Spells s ns l = IsLine s ns × (l ≡ line_text s ns)

-- A leaf is a line without its line feed; a branch is on a product, with the tree where it is In and the tree where it is Out.
pub data TextTree : Type 0 where
  leaf : List ℕ → TextTree
  branch : ℕ → TextTree → TextTree → TextTree

abbrev pub branch_text : ℕ → List ℕ
branch_text i = line_text S.Branch (i ∷ [])

abbrev pub end_text : List ℕ
end_text = line_text S.End []

-- The lines of a tree, in pre-order, before those that follow.
abbrev pub tree_texts : TextTree → List (List ℕ) → List (List ℕ)
tree_texts (leaf l) rest = l ∷ rest
tree_texts (branch i inside outside) rest = branch_text i ∷ tree_texts inside (tree_texts outside rest)

-- Each branch is a line, on a product that is Open at its node, and each leaf closes its node.
abbrev pub TreeCloses : (List Mark → List ℕ → Type 0) → List Mark → TextTree → Type 0
TreeCloses Closes node (leaf l) = Closes node l
TreeCloses Closes node (branch i inside outside) = IsLine S.Branch (i ∷ []) × (mark_at node i ≡ Open)
    × TreeCloses Closes (slice_set node i In) inside × TreeCloses Closes (slice_set node i Out) outside

-- The lines are those of trees that close these nodes, one after the other, and the end.
abbrev pub AreTrees : (List Mark → List ℕ → Type 0) → List (List Mark) → List (List ℕ) → Type 0
AreTrees Closes [] ls = ls ≡ end_text ∷ []
AreTrees Closes (node ∷ nodes) ls = (tree : TextTree) × (rest : List (List ℕ)) × (ls ≡ tree_texts tree rest)
    × TreeCloses Closes node tree × AreTrees Closes nodes rest

-- ---- Readers of trees.

-- The trees of these nodes are still to come; all has come; or what no accepted text begins with.
pub data TreePhase : Type 0 where
  in_trees : List (List Mark) → TreePhase
  at_end : TreePhase
  refused : TreePhase

abbrev pub TreeWaits : (List Mark → List ℕ → Type 0) → TreePhase → List (List ℕ) → Type 0
TreeWaits Closes (in_trees nodes) ls = AreTrees Closes nodes ls
TreeWaits Closes at_end ls = ls ≡ []
TreeWaits Closes refused ls = ⊥

-- The line leads from one phase to the other.
abbrev pub TreeLeads : (List Mark → List ℕ → Type 0) → TreePhase → TreePhase → List ℕ → Type 0
TreeLeads Closes before after l = (ls : List (List ℕ)) → TreeWaits Closes after ls ↔ TreeWaits Closes before (l ∷ ls)

-- What `read_line` says of the bytes.
pub record IsRead (bytes : List ℕ) (shape : Option Shape) (numbers : List ℕ) : Type 0 where
  pub found : IfSome shape (λ s. IsLine s numbers)
  pub text : IfSome shape (λ s. line_text s numbers ≡ bytes)
  pub none : IfNone shape (¬ IsLineText bytes)

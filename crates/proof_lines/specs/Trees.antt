-- The tree of a certificate, and the text of a proof. Own.
use Rattle.std.specs.Prelude.{◌≡◌, ℕ, ⊤, List, [], ◌∷◌}
use Rattle.offer_model.specs.declared.products.ModelName.{ModelName}
use Rattle.proof_lines.specs.declared.line.Shape.{Shape}
use Rattle.proof_lines.specs.declared.line.Shape.TheVariants as S
use Rattle.proof_lines.specs.Lines.{LineData, line, AreLines, text_of}

-- A tree is a leaf, or a branch on a product with the tree where it is In and the tree where it is Out.
pub data Tree : Type 0 where
  leaf : Shape → List ℕ → Tree
  branch : ℕ → Tree → Tree → Tree

-- The shapes that leaves have.
abbrev pub IsLeaf : Shape → Type 0
IsLeaf S.Clash = ⊤
IsLeaf S.Multipliers = ⊤
IsLeaf S.Shelf = ⊤
IsLeaf S.Potentials = ⊤
IsLeaf S.Segments = ⊤
IsLeaf _ = ⊥

abbrev pub HasLeaves : Tree → Type 0
HasLeaves (leaf shape ns) = IsLeaf shape
HasLeaves (branch i inside outside) = HasLeaves inside × HasLeaves outside

-- The lines of a tree, in pre-order, before those that follow.
abbrev pub tree_lines : Tree → List LineData → List LineData
tree_lines (leaf shape ns) rest = line shape ns ∷ rest
tree_lines (branch i inside outside) rest = line S.Branch (i ∷ []) ∷ tree_lines inside (tree_lines outside rest)

-- What a proof says: the model, the assortment's digits, the numbers of its value line, and the tree.
pub record ProofData : Type 0 where
  pub model : ModelName
  pub digits : List ℕ
  pub value : List ℕ
  pub tree : Tree

-- Four lines of header, the tree, and the end.
abbrev pub lines_of : ProofData → List LineData
lines_of d = line S.Start [] ∷ line (S.Model d.model) [] ∷ line S.Set d.digits ∷ line S.Value d.value
    ∷ tree_lines d.tree (line S.End [] ∷ [])

-- The text is a proof that says this.
pub record IsProof (d : ProofData) (text : List ℕ) : Type 0 where
  pub lines : AreLines (lines_of d)
  pub leaves : HasLeaves d.tree
  pub whole : text ≡ text_of (lines_of d)

-- The leaves of certificates of best assortments, by their texts, and their trees. Own.
use Rattle.std.specs.Prelude.{◌≡◌, ℕ, ◌<◌, Bool, List, [], ◌∷◌, map}
use Rattle.std.proofs.Common.{arith}
use Rattle.offer_model.specs.declared.node.Mark.{Mark}
use Rattle.offer_model.specs.Problems.{ProblemData}
use Rattle.proof_lines.specs.declared.line.Shape.{Shape}
use Rattle.proof_lines.specs.declared.line.Shape.TheVariants as S
use Rattle.proof_lines.specs.Lines.{LineData, line_text}
use Rattle.proof_lines.specs.Trees.{Tree, IsLeaf}
use Rattle.proof_lines.specs.Trees.Tree.{leaf as line_leaf, branch as line_branch}
use Rattle.proof_lines.specs.Closing.{Closes}
use Rattle.proof_lines.proofs.CallerLemmas.{Closes-leaf}
use Rattle.proof_tree.specs.Trees.{Spells, TextTree}
use Rattle.proof_tree.specs.Trees.TextTree.{leaf, branch}

-- The line is the text of a leaf that closes the node.
abbrev pub LeafCloses : ProblemData → List Bool → List Mark → List ℕ → Type 0
LeafCloses p x node l = (s : Shape) × (us : List ℕ) × Spells s us l × Closes p x node s us

-- The texts of lines.
abbrev pub texts_of : List LineData → List (List ℕ)
texts_of ls = map (λ l. line_text l.shape l.numbers) ls

-- A tree of lines, as a tree of their texts.
abbrev pub text_tree : Tree → TextTree
text_tree (line_leaf s us) = leaf (line_text s us)
text_tree (line_branch i inside outside) = branch i (text_tree inside) (text_tree outside)

-- ---- No leaf's text begins as a branch does.

head : (b : ℕ) (l m : List ℕ) → 98 < b → 98 ∷ l ≡ b ∷ m → ⊥
head b l m d e = let f : b ≡ 98 = cc in absurd (omega arith)

no_branch_text : (s : Shape) (us : List ℕ) (l : List ℕ) → IsLeaf s → 98 ∷ l ≡ line_text s us → ⊥
no_branch_text S.Clash us l k e = head 120 l [] (omega arith) e
no_branch_text S.Multipliers us l k e = head 109 l _ (omega arith) e
no_branch_text S.Shelf us l k e = head 116 l [] (omega arith) e
no_branch_text S.Potentials us l k e = head 112 l _ (omega arith) e
no_branch_text S.Segments us l k e = head 115 l _ (omega arith) e
no_branch_text _ us l k e = absurd k

-- The law of leaves, for these.
pub leaf_no_branch : (p : ProblemData) (x : List Bool) (node : List Mark) (l : List ℕ) → LeafCloses p x node (98 ∷ l) → ⊥
leaf_no_branch p x node l k = no_branch_text k.0 k.1 l (Closes-leaf p x node k.0 k.1 k.3) k.2.1

-- Certificates of best assortments as lines, and as texts.
use Rattle.std.proofs.Common.{◌≡◌, ℕ, Bool, List, [], ◌∷◌, ◌++◌, refl, sym, ◌∙◌, ap, subst, arith, ◌↔◌, append_assoc}
use Rattle.std.specs.List.{AllByRecursion}
use Rattle.std.specs.Prelude.{slice_set, Some, None}
use Rattle.offer_model.specs.declared.node.Mark.{Mark}
use Rattle.offer_model.specs.declared.node.Mark.TheVariants.{In, Out}
use Rattle.offer_model.specs.Problems.{ProblemData}
use Rattle.proof_lines.specs.declared.line.Shape.{Shape}
use Rattle.proof_lines.specs.declared.line.Shape.TheVariants as S
use Rattle.proof_lines.specs.Lines.{LineData, line, line_text, AreLines, text_of}
use Rattle.proof_lines.specs.Trees.{Tree, tree_lines}
use Rattle.proof_lines.specs.Trees.Tree.{leaf as line_leaf, branch as line_branch}
use Rattle.proof_lines.specs.Closing.{Closes, TreeCloses}
use Rattle.proof_lines.specs.Laws.{IsShort}
use Rattle.proof_tree.specs.Feeding.{joined, IsBare}
use Rattle.proof_tree.specs.Trees.{TextTree, tree_texts, end_text, branch_text, IsRead}
use Rattle.proof_tree.specs.Trees.{TreeCloses as TextTreeCloses}
use Rattle.proof_tree.specs.Trees.TextTree.{leaf, branch}
use Rattle.proof_tree.specs.LineLeaves.{LeafCloses, texts_of, text_tree}
use Rattle.proof_tree.proofs.TreeLemmas.{read_as}
use Rattle.proof_tree.proofs.TextLemmas.{short_bare}

-- ---- A leaf.

-- Of a line that was read, its text closes the node where the line does.
pub leaf_read : (p : ProblemData) (x : List Bool) (node : List Mark) (l : List ℕ) (s : Shape) (ns : List ℕ) → IsRead l (Some s) ns
    → Closes p x node s ns ↔ LeafCloses p x node l
leaf_read p x node l s ns r = (λ k. (s, ns, (r.found, sym r.text), k), λ k. back k)
  where
    back : LeafCloses p x node l → Closes p x node s ns
    back k =
        let same = read_as l (Some s) ns k.0 k.1 r k.2 in
        let shape : s ≡ k.0 = cc in
        subst (λ z. Closes p x node z ns) (sym shape) (subst (λ z. Closes p x node k.0 z) (sym same.1) k.3)

-- What is no line closes nothing.
pub leaf_unread : (p : ProblemData) (x : List Bool) (node : List Mark) (l : List ℕ) (ns : List ℕ) → IsRead l None ns → LeafCloses p x node l → ⊥
leaf_unread p x node l ns r k = r.none (k.0, k.1, k.2.0, sym k.2.1)

-- ---- A tree.

-- The lines of a tree have the texts of its tree of texts.
pub tree_texts_are : (tree : Tree) (rest : List LineData) → texts_of (tree_lines tree rest) ≡ tree_texts (text_tree tree) (texts_of rest)
tree_texts_are (line_leaf s us) rest = refl
tree_texts_are (line_branch i inside outside) rest =
    ap (λ z. branch_text i ∷ z) (tree_texts_are inside (tree_lines outside rest) ∙ ap (λ z. tree_texts (text_tree inside) z) (tree_texts_are outside rest))

-- The texts of lines, joined, are the text of the lines.
pub joined_is : (ls : List LineData) → joined (texts_of ls) ≡ text_of ls
joined_is [] = refl
joined_is (l ∷ ls) = ap (λ z. line_text l.shape l.numbers ++ 10 ∷ z) (joined_is ls)

-- The text of lines, a tree and the end.
pub whole_text : (header : List LineData) (tree : Tree)
    → text_of header ++ joined (tree_texts (text_tree tree) (end_text ∷ [])) ≡ text_of (header ++ tree_lines tree (line S.End [] ∷ []))
whole_text [] tree = ap joined (sym (tree_texts_are tree (line S.End [] ∷ []))) ∙ joined_is (tree_lines tree (line S.End [] ∷ []))
whole_text (l ∷ ls) tree =
    append_assoc (line_text l.shape l.numbers) (10 ∷ text_of ls) _ ∙ ap (λ z. line_text l.shape l.numbers ++ 10 ∷ z) (whole_text ls tree)

-- Where a tree of lines closes its node, so does its tree of texts.
pub text_closes : (p : ProblemData) (x : List Bool) (node : List Mark) (tree : Tree) (rest : List LineData) → TreeCloses p x node tree → AreLines (tree_lines tree rest)
    → TextTreeCloses (LeafCloses p x) node (text_tree tree) × AreLines rest
text_closes p x node (line_leaf s us) rest k a = ((s, us, (a.0, refl), k), a.1)
text_closes p x node (line_branch i inside outside) rest k a =
    let one = text_closes p x (slice_set node i In) inside (tree_lines outside rest) k.1 a.1 in
    let two = text_closes p x (slice_set node i Out) outside rest k.2 one.1 in
    ((a.0, k.0, one.0, two.0), two.1)

-- A tree of lines that has this text.
abbrev pub Spelled : ProblemData → List Bool → List Mark → TextTree → Type 0
Spelled p x node t = (tree : Tree) × TreeCloses p x node tree × (text_tree tree ≡ t) × ((rest : List LineData) → AreLines rest → AreLines (tree_lines tree rest))

-- A tree of texts that closes its node is that of a tree of lines.
pub spelled : (p : ProblemData) (x : List Bool) (node : List Mark) (t : TextTree) → TextTreeCloses (LeafCloses p x) node t → Spelled p x node t
spelled p x node (leaf l) k = (line_leaf k.0 k.1, k.3, ap (λ z. leaf z) (sym k.2.1), λ rest a. (k.2.0, a))
spelled p x node (branch i inside outside) k =
    let one = spelled p x (slice_set node i In) inside k.2 in
    let two = spelled p x (slice_set node i Out) outside k.3 in (
      line_branch i one.0 two.0,
      (k.1, one.1, two.1),
      ap (λ z. branch i z (text_tree two.0)) one.2 ∙ ap (λ z. branch i inside z) two.2,
      λ rest all. (k.0, one.3 (tree_lines two.0 rest) (two.3 rest all)),
    )

-- The texts of short lines are bare.
pub lines_bare : (ls : List LineData) → AreLines ls → AllByRecursion IsShort ls → AllByRecursion IsBare (texts_of ls)
lines_bare [] a h = tt
lines_bare (l ∷ ls) a h = (short_bare l.shape l.numbers a.0 (let few = h.0 in omega arith), lines_bare ls a.1 h.1)

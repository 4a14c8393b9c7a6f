-- Why a text isn't accepted.
use Rattle.std.proofs.Common.{◌≡◌, ℕ, Bool, true, List, [], ◌∷◌, ◌++◌, length, refl, sym, ◌∙◌, ap, subst, arith, ◌+◌, ◌*◌}
use Rattle.std.specs.List.{AllByRecursion}
use Rattle.offer_model.specs.Problems.{ProblemData, product_count}
use Rattle.offer_model.specs.Nodes.{open_node}
use Rattle.proof_lines.specs.declared.line.Shape.{Shape}
use Rattle.proof_lines.specs.declared.line.Shape.TheVariants as S
use Rattle.proof_lines.specs.Lines.{LineData, line, line_text, IsLineText, AreLines, text_of}
use Rattle.proof_lines.specs.Trees.{Tree, IsLeaf, HasLeaves, tree_lines, lines_of, IsProof}
use Rattle.proof_lines.specs.Trees.Tree.{leaf, branch}
use Rattle.proof_lines.specs.Closing.{TreeCloses}
use Rattle.proof_lines.specs.Acceptance.{proof_of, Accepts}
use Rattle.proof_lines.specs.WorkedProofs.{joined}
use Rattle.proof_lines.proofs.FeedLemmas.{clean, clean_line, feed_split, text_of-one}
use Rattle.proof_lines.proofs.ProofsDiffer.{first_line, proofs_differ, digits_of-one}

-- ---- A text is accepted by its own tree alone.

pub tree_rejects : (p : ProblemData) (text : List ℕ) (x : List Bool) (tree : Tree) → IsProof (proof_of p x tree) text
    → (TreeCloses p x (open_node (product_count p)) tree → ⊥) → Accepts p text → ⊥
tree_rejects p text x tree proof open_leaf a =
    let same = proofs_differ (proof_of p a.0 a.1) (proof_of p x tree) text a.2.proof proof in
    let word = digits_of-one a.0 x (ap (λ d. d.digits) same) in
    let shape : a.1 ≡ tree = ap (λ d. d.tree) same in
    let P : List Bool → Type 0 = λ y. TreeCloses p y (open_node (product_count p)) a.1 in
    let Q : Tree → Type 0 = λ t. TreeCloses p x (open_node (product_count p)) t in
    open_leaf (subst Q shape (subst P word a.2.closed))

-- ---- A tree has one leaf more than branches.

abbrev pub is_branch : Shape → ℕ
is_branch S.Branch = 1
is_branch _ = 0

abbrev pub branches : List LineData → ℕ
branches [] = 0
branches (l ∷ ls) = is_branch l.shape + branches ls

leaf_is_none : (shape : Shape) → IsLeaf shape → is_branch shape ≡ 0
leaf_is_none S.Clash h = refl
leaf_is_none S.Multipliers h = refl
leaf_is_none S.Shelf h = refl
leaf_is_none S.Potentials h = refl
leaf_is_none S.Segments h = refl
leaf_is_none _ h = absurd h

tree_count : (tree : Tree) (rest : List LineData) → HasLeaves tree
    → length (tree_lines tree rest) + 2 * branches rest ≡ 2 * branches (tree_lines tree rest) + 1 + length rest
tree_count (leaf shape ns) rest h = let none = leaf_is_none shape h in omega arith
tree_count (branch i inside outside) rest h =
    let one = tree_count inside (tree_lines outside rest) h.0 in
    let two = tree_count outside rest h.1 in
    omega arith

-- Four lines of header, and then other lines than a tree has with the end after it.
pub count_rejects : (p : ProblemData) (text : List ℕ) (a b c d : LineData) (ls : List LineData) → AreLines (a ∷ b ∷ c ∷ d ∷ ls)
    → text ≡ text_of (a ∷ b ∷ c ∷ d ∷ ls) → (length ls ≡ 2 * branches ls + 2 → ⊥) → Accepts p text → ⊥
count_rejects p text a b c d ls lines whole odd k =
    let proof = k.2.proof in
    let same = text_of-one (lines_of (proof_of p k.0 k.1)) (a ∷ b ∷ c ∷ d ∷ ls) proof.lines lines (sym proof.whole ∙ whole) in
    let e0 = first_line _ a _ (b ∷ c ∷ d ∷ ls) same in
    let e1 = first_line _ b _ (c ∷ d ∷ ls) e0.2 in
    let e2 = first_line _ c _ (d ∷ ls) e1.2 in
    let e3 = first_line _ d _ ls e2.2 in
    let count = tree_count k.1 (line S.End [] ∷ []) proof.leaves in
    let P : List LineData → Type 0 = λ t. length t ≡ 2 * branches t + 2 in
    odd (subst P e3.2 (omega arith))

-- ---- Each text between line feeds is a line's.

pub pieces_are_lines : (ls : List LineData) (pieces : List (List ℕ)) → AreLines ls → AllByRecursion (λ t. clean t ≡ true) pieces → text_of ls ≡ joined pieces
    → AllByRecursion IsLineText pieces
pieces_are_lines ls [] a c e = tt
pieces_are_lines [] (t ∷ pieces) a c e = absurd (no_text t (joined pieces) (sym e))
  where
    no_text : (xs u : List ℕ) → xs ++ 10 ∷ u ≡ [] → ⊥
    no_text [] u e = cc
    no_text (x ∷ xs) u e = cc
pieces_are_lines (l ∷ ls) (t ∷ pieces) a c e =
    let parts = feed_split (line_text l.shape l.numbers) t (text_of ls) (joined pieces) (clean_line l.shape l.numbers a.0) c.0 e in
    ((l.shape, l.numbers, a.0, parts.0), pieces_are_lines ls pieces a.1 c.1 parts.1)

pub piece_rejects : (p : ProblemData) (pieces : List (List ℕ)) → AllByRecursion (λ t. clean t ≡ true) pieces → (AllByRecursion IsLineText pieces → ⊥)
    → Accepts p (joined pieces) → ⊥
piece_rejects p pieces c bad k = bad (pieces_are_lines (lines_of (proof_of p k.0 k.1)) pieces k.2.proof.lines c (sym k.2.proof.whole))

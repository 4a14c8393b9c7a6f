-- The certificate along the best assortment is one that writers may write.
use Rattle.std.proofs.Common.{◌≡◌, ℕ, zero, suc, ◌+◌, ◌<◌, Bool, true, false, cond, not, List, [], ◌∷◌, ◌++◌, length, refl, sym, ap, arith, subst, inl, inr, ◌⊎◌, ◌^◌, ◌∙◌, Result}
use Rattle.std.specs.Prelude.{◌≢◌, slice_set}
use Rattle.std.specs.Bool.{MatchBool}
use Rattle.std.proofs.Math.Nat.{eq-or-lt_of_le}
use Rattle.offer_io.specs.Stores.{StoreView}
use Rattle.offer_model.specs.declared.node.Mark.{Mark}
use Rattle.offer_model.specs.declared.node.Mark.TheVariants.{In, Out}
use Rattle.offer_model.specs.Assortments.{offers}
use Rattle.offer_model.specs.Problems.{ProblemData, product_count}
use Rattle.offer_model.specs.Validity.{IsProblem, IsRatioModel}
use Rattle.offer_model.specs.Best.{IsBest}
use Rattle.offer_model.specs.Nodes.{open_node}
use Rattle.offer_model.specs.Prices.{Prices}
use Rattle.limit_rules.specs.declared.kind.Kind.TheVariants as K
use Rattle.limit_rules.specs.Kinds.{kind_of}
use Rattle.proof_lines.specs.declared.line.Line.{Line}
use Rattle.proof_lines.specs.declared.line.Shape.{Shape}
use Rattle.proof_lines.specs.declared.line.Shape.TheVariants as S
use Rattle.proof_lines.specs.Lines.{LineData, line, IsLine, AreLines, text_of}
use Rattle.proof_lines.specs.Trees.{Tree, tree_lines}
use Rattle.proof_lines.specs.Closing.{own_prices, TreeCloses}
use Rattle.proof_lines.specs.Writing.{offered_end, exact_leaf, IsPathLeaf, IsPath, RatioForm}
use Rattle.proof_tree.specs.Feeding.{joined}
use Rattle.proof_tree.specs.LineLeaves.{text_tree}
use Rattle.proof_tree.specs.Pens.{lines_data}
use Rattle.proof_tree.specs.Puts.{Puts}
use Rattle.proof_tree.specs.Rules.{IsRuleTree}
use Rattle.proof_tree.specs.Trees.{TextTree, tree_texts, end_text}
use Rattle.proof_write.specs.HeaderLines.{IsHeader}
use Rattle.proof_write.specs.Leaves.{mark_of, path_node, side_node, leaf_at, IsPrintable, AreLeaves}
use Rattle.proof_write.specs.PathRules.{PathLeaf, PathBranch}
use Rattle.proof_write.proofs.ClosingLemmas.{leaf_of, says_closes, shape_for, exact_is, says_fits, says_printable}
use Rattle.proof_write.proofs.LineLemmas.{branch_is_line}
use Rattle.proof_write.proofs.PathLemmas.{node-open, node-mark, node-next, side-beside, last-beside, end-inside, path_tree, path_is_rule}
use Rattle.proof_write.proofs.WrittenLemmas.{IsClaimed, written, ratio_form, WritesProof, writes_proof}

-- The best assortment of a problem with limits of one kind, and what closes the nodes beside it.
pub record IsProved (p : ProblemData) (x : List Bool) (leaves : List LineData) : Type 0 where
  pub valid : IsProblem p
  pub ratio : IsRatioModel p.model
  pub kind : kind_of p.limits ≢ K.General
  pub best : IsBest p x
  pub closed : AreLeaves p (own_prices p x) x (offered_end x) leaves

-- ---- The grammar.

-- Each leaf can be printed.
pub AreLeaves-printable : (p : ProblemData) (at : Prices) (x : List Bool) (end : ℕ) (leaves : List LineData) → IsProblem p → AreLeaves p at x end leaves
    → (k : ℕ) → k < length leaves → IsPrintable (leaf_at leaves k)
AreLeaves-printable p at x end leaves valid h k l = by_place (eq-or-lt_of_le (let each = h.each in omega arith))
  where
    by_place : (k ≡ end) ⊎ (k < end) → IsPrintable (leaf_at leaves k)
    by_place (inr b) = says_printable p at (side_node x k) (leaf_at leaves k) valid (h.sides k b)
    by_place (inl e) = subst (λ t. IsPrintable (leaf_at leaves t)) (sym e) (says_printable p at (path_node x end) (leaf_at leaves end) valid h.last)

tree_lines-are : (x : List Bool) (leaves : List LineData) → ((k : ℕ) → k < length leaves → IsPrintable (leaf_at leaves k)) → (more k : ℕ) → k + more < length leaves
    → k + more < 2 ^ 64 → (rest : List LineData) → AreLines rest → AreLines (tree_lines (path_tree x leaves more k) rest)
tree_lines-are x leaves all zero k i l rest h = ((all k (omega arith)).grammar, h)
tree_lines-are x leaves all (suc more) k i l rest h = (
  branch_is_line k (omega arith),
  by_offer (offers x k) (all k (omega arith)).grammar (λ r g. tree_lines-are x leaves all more (suc k) (omega arith) (omega arith) r g),
)
  where
    here : Tree
    here = leaf_of (leaf_at leaves k)

    inner : Tree
    inner = path_tree x leaves more (suc k)

    by_offer : (b : Bool) → IsLine (leaf_at leaves k).shape (leaf_at leaves k).numbers
        → ((r : List LineData) → AreLines r → AreLines (tree_lines inner r))
        → AreLines (tree_lines (cond b inner here) (tree_lines (cond b here inner) rest))
    by_offer true own deep = deep (leaf_at leaves k ∷ rest) (own, h)
    by_offer false own deep = (own, deep rest h)

-- ---- The leaves close.

closes_along : (p : ProblemData) (x : List Bool) (leaves : List LineData) → IsProved p x leaves → (more k : ℕ) → k + more ≡ offered_end x
    → TreeCloses p x (path_node x k) (path_tree x leaves more k)
closes_along p x leaves f zero k e =
    subst (λ t. TreeCloses p x (path_node x t) (leaf_of (leaf_at leaves t))) (omega arith)
    (says_closes p x (path_node x (offered_end x)) (leaf_at leaves (offered_end x)) f.ratio f.best (last-beside x) f.closed.last)
closes_along p x leaves f (suc more) k e =
    let sides = by_offer (offers x k) (node-next x k below) (closes_along p x leaves f more (suc k) (omega arith))
    (says_closes p x (side_node x k) (leaf_at leaves k) f.ratio f.best (side-beside x k below) (f.closed.sides k (omega arith))) in
    (node-mark x k below, sides.0, sides.1)
  where
    below : k < length x
    below = let inside = end-inside x in omega arith

    here : Tree
    here = leaf_of (leaf_at leaves k)

    inner : Tree
    inner = path_tree x leaves more (suc k)

    by_offer : (b : Bool) → slice_set (path_node x k) k (mark_of b) ≡ path_node x (suc k) → TreeCloses p x (path_node x (suc k)) inner
        → TreeCloses p x (slice_set (path_node x k) k (mark_of (not b))) here
        → TreeCloses p x (slice_set (path_node x k) k In) (cond b inner here) × TreeCloses p x (slice_set (path_node x k) k Out) (cond b here inner)
    by_offer true next deep own = (subst (λ n. TreeCloses p x n inner) (sym next) deep, own)
    by_offer false next deep own = (own, subst (λ n. TreeCloses p x n inner) (sym next) deep)

-- ---- The form.

path_along : (p : ProblemData) (x : List Bool) (leaves : List LineData) → IsProved p x leaves → (more k : ℕ) → k + more ≡ offered_end x
    → IsPath p x (shape_for (kind_of p.limits)) more k (path_node x k) (path_tree x leaves more k)
path_along p x leaves f zero k e =
    subst (λ t. IsPathLeaf p (shape_for (kind_of p.limits)) (path_node x t) (leaf_of (leaf_at leaves t))) (omega arith)
    (says_fits p (own_prices p x) (path_node x (offered_end x)) (leaf_at leaves (offered_end x)) f.closed.last)
path_along p x leaves f (suc more) k e = (
  refl,
  by_offer (offers x k) (node-next x k below) (subst (λ m. IsPath p x shape more m (path_node x (suc k)) inner) one (path_along p x leaves f more (suc k) (omega arith)))
      (says_fits p (own_prices p x) (side_node x k) (leaf_at leaves k) (f.closed.sides k (omega arith))),
)
  where
    below : k < length x
    below = let inside = end-inside x in omega arith

    one : suc k ≡ k + 1
    one = omega arith

    shape : Shape
    shape = shape_for (kind_of p.limits)

    here : Tree
    here = leaf_of (leaf_at leaves k)

    inner : Tree
    inner = path_tree x leaves more (suc k)

    by_offer : (b : Bool) → slice_set (path_node x k) k (mark_of b) ≡ path_node x (suc k) → IsPath p x shape more (k + 1) (path_node x (suc k)) inner
        → IsPathLeaf p shape (slice_set (path_node x k) k (mark_of (not b))) here
        → MatchBool b
        (IsPath p x shape more (k + 1) (slice_set (path_node x k) k In) (cond b inner here) × IsPathLeaf p shape (slice_set (path_node x k) k Out) (cond b here inner))
        (IsPathLeaf p shape (slice_set (path_node x k) k In) (cond b inner here) × IsPath p x shape more (k + 1) (slice_set (path_node x k) k Out) (cond b here inner))
    by_offer true next deep own = (subst (λ n. IsPath p x shape more (k + 1) n inner) (sym next) deep, own)
    by_offer false next deep own = (own, subst (λ n. IsPath p x shape more (k + 1) n inner) (sym next) deep)

-- ---- The text.

-- Where the bytes of the rule's tree are written, those of a certificate are.
pub path_writes : {T E : Type 0} (p : ProblemData) (x : List Bool) (leaves : List LineData) (header : List Line) (old new : StoreView) (result : Result T E)
    (n : ℕ) → n ≡ length x → IsClaimed p x → IsHeader p x header → IsProved p x leaves
    → ((tree : TextTree) → IsRuleTree (PathLeaf (record { best = x; leaves = leaves })) (PathBranch (record { best = x; leaves = leaves })) (open_node n) tree
    → Puts old (text_of (lines_data header) ++ joined (tree_texts tree (end_text ∷ []))) result new)
    → WritesProof p old result new
path_writes p x leaves header old new result n is c g f h =
    writes_proof p x tree header old new result g (written p x tree c closed lines (ratio_form p x tree f.ratio form))
    (h (text_tree tree) (subst (λ n. IsRuleTree L B n (text_tree tree)) (sym (ap open_node is ∙ node-open x)) (path_is_rule x leaves (offered_end x) 0 (omega arith))))
  where
    L : List Mark → List ℕ → Type 0
    L node l = PathLeaf (record { best = x; leaves = leaves }) node l

    B : List Mark → ℕ → Type 0
    B node i = PathBranch (record { best = x; leaves = leaves }) node i

    tree : Tree
    tree = path_tree x leaves (offered_end x) 0

    opened : open_node (product_count p) ≡ path_node x 0
    opened = ap open_node (sym f.best.feasible.0) ∙ node-open x

    closed : TreeCloses p x (open_node (product_count p)) tree
    closed = subst (λ n. TreeCloses p x n tree) (sym opened) (closes_along p x leaves f (offered_end x) 0 (omega arith))

    lines : AreLines (tree_lines tree (line S.End [] ∷ []))
    lines = tree_lines-are x leaves (AreLeaves-printable p (own_prices p x) x (offered_end x) leaves f.valid f.closed)
        (offered_end x) 0 (let each = f.closed.each in omega arith) (let inside = end-inside x in let few = c.few in omega arith) (line S.End [] ∷ []) (refl, tt)

    form : RatioForm p x (exact_leaf p.limits) tree
    form = subst (λ s. RatioForm p x s tree) (sym (exact_is p.limits f.kind))
        (subst (λ n. IsPath p x (shape_for (kind_of p.limits)) (offered_end x) 0 n tree) (sym opened) (path_along p x leaves f (offered_end x) 0 (omega arith)))

-- The tree of a search by any rule that is definite: there is one, its leaves close their nodes, and its lines are lines.
use Rattle.std.proofs.Common.{◌≡◌, ◌≢◌, ◌∙◌, ℕ, zero, suc, ◌<◌, ◌≤◌, ◌^◌, ◌⊎◌, Bool, true, false, List, [], ◌∷◌, ◌++◌, length, refl, sym, ap, arith, subst, inl, inr}
use Rattle.std.specs.Prelude.{slice_set}
use Rattle.std.proofs.lemmas.List.{length-set}
use Rattle.offer_model.specs.declared.node.Mark.{Mark}
use Rattle.offer_model.specs.declared.node.Mark.TheVariants.{In, Out, Open}
use Rattle.offer_model.specs.Problems.{ProblemData, product_count}
use Rattle.offer_model.specs.Nodes.{mark_at, Clashes}
use Rattle.offer_model.proofs.NodeLemmas.{open_inside}
use Rattle.proof_lines.specs.declared.line.Shape.{Shape}
use Rattle.proof_lines.specs.declared.line.Shape.TheVariants as S
use Rattle.proof_lines.specs.Lines.{LineData, line, line_text, IsLine, AreLines}
use Rattle.proof_lines.specs.Trees.{Tree, tree_lines}
use Rattle.proof_lines.specs.Trees.Tree.{leaf, branch}
use Rattle.proof_lines.specs.Closing.{Closes, TreeCloses}
use Rattle.proof_lines.specs.Writing.{Rule, IsSearchTree}
use Rattle.proof_lines.proofs.ShortLines.{line_short}
use Rattle.proof_tree.specs.LineLeaves.{text_tree}
use Rattle.proof_tree.specs.Rules.{IsRuleTree, SaysLeaf}
use Rattle.proof_tree.specs.SearchRules.{SearchLeaf}
use Rattle.proof_tree.proofs.RuleLemmas.{IsDecided, rule_tree}
use Rattle.proof_tree.proofs.SearchLemmas.{rule_is_search}
use Rattle.proof_write.proofs.DecideLemmas.{Decided, clashes}
use Rattle.proof_write.proofs.LineLemmas.{branch_is_line}

-- ---- What a search asks of its rule.

-- Each product is settled.
abbrev pub IsSettled : List Mark → Type 0
IsSettled node = (i : ℕ) → i < length node → mark_at node i ≢ Open

-- The rule is definite for a problem and its best assortment: its leaf and its branch leave no choice, and it gets on at each
-- node of the problem's products.
pub record IsDefinite (p : ProblemData) (x : List Bool) (rule : Rule) : Type 0 where
  pub some : (node : List Mark) → length node ≡ product_count p → (us : List ℕ) × rule.HasNumbers node us
  pub one : (node : List Mark) (us vs : List ℕ) → rule.HasNumbers node us → rule.HasNumbers node vs → us ≡ vs
  pub line : (node : List Mark) (us : List ℕ) → length node ≡ product_count p → rule.HasNumbers node us → IsLine rule.shape us × (length us ≤ 1024)
  pub decided : (node : List Mark) (us : List ℕ) → length node ≡ product_count p → rule.HasNumbers node us → Decided (Closes p x node rule.shape us)
  pub settled : (node : List Mark) (us : List ℕ) → length node ≡ product_count p → IsSettled node → (Clashes p node → ⊥) → rule.HasNumbers node us
      → Closes p x node rule.shape us
  pub branch : (node : List Mark) → ((i : ℕ) × rule.BranchesOn node i) ⊎ IsSettled node
  pub open_mark : (node : List Mark) (i : ℕ) → rule.BranchesOn node i → mark_at node i ≡ Open

-- A product past the end isn't Open either.
pub settled_past : (node : List Mark) → IsSettled node → (i : ℕ) → mark_at node i ≢ Open
settled_past [] s i e = cc
settled_past (m ∷ node) s zero e = s zero (omega arith) e
settled_past (m ∷ node) s (suc i) e = settled_past node (λ j l. s (suc j) (omega arith)) i e

-- ---- What the rule says at a node.

-- The text of a line and its line feed.
abbrev pub printed : LineData → List ℕ
printed l = line_text l.shape l.numbers ++ 10 ∷ []

-- A clash has one leaf.
pub says_clash : (p : ProblemData) (x : List Bool) (rule : Rule) (node : List Mark) (l : LineData) (text : List ℕ) → l ≡ line S.Clash [] → text ≡ printed l
    → Clashes p node → SaysLeaf (SearchLeaf p x rule node) text true
says_clash p x rule node l text is own clash = (line_text S.Clash [], own ∙ ap printed is, inl (clash, refl), one)
  where
    one : (m : List ℕ) → SearchLeaf p x rule node m → m ≡ line_text S.Clash []
    one m (inl h) = h.1
    one m (inr h) = absurd (h.0 clash)

-- Where the rule's numbers close a node that doesn't clash, they are its one leaf.
pub says_numbers : (p : ProblemData) (x : List Bool) (rule : Rule) (node : List Mark) (us : List ℕ) (l : LineData) (text : List ℕ) → IsDefinite p x rule
    → l ≡ line rule.shape us → text ≡ printed l → (Clashes p node → ⊥) → rule.HasNumbers node us → Closes p x node rule.shape us
    → SaysLeaf (SearchLeaf p x rule node) text true
says_numbers p x rule node us l text d is own free has k = (line_text rule.shape us, own ∙ ap printed is, inr (free, (us, refl, has, k)), one)
  where
    one : (m : List ℕ) → SearchLeaf p x rule node m → m ≡ line_text rule.shape us
    one m (inl h) = absurd (free h.0)
    one m (inr h) = h.1.1 ∙ ap (λ z. line_text rule.shape z) (d.one node h.1.0 us h.1.2 has)

none_says : (p : ProblemData) (x : List Bool) (rule : Rule) (node : List Mark) (us : List ℕ) → IsDefinite p x rule → (Clashes p node → ⊥) → rule.HasNumbers node us
    → (Closes p x node rule.shape us → ⊥) → (m : List ℕ) → SearchLeaf p x rule node m → ⊥
none_says p x rule node us d free has other m (inl h) = free h.0
none_says p x rule node us d free has other m (inr h) = other (subst (λ z. Closes p x node rule.shape z) (d.one node h.1.0 us h.1.2 has) h.1.3)

-- Else there is none.
pub says_none : (p : ProblemData) (x : List Bool) (rule : Rule) (node : List Mark) (us : List ℕ) (text : List ℕ) → IsDefinite p x rule → text ≡ []
    → (Clashes p node → ⊥) → rule.HasNumbers node us → (Closes p x node rule.shape us → ⊥) → SaysLeaf (SearchLeaf p x rule node) text false
says_none p x rule node us text d is free has other = (is, none_says p x rule node us d free has other)

-- The rule's leaf fits a line's room.
pub numbers_short : (p : ProblemData) (x : List Bool) (rule : Rule) (node : List Mark) (us : List ℕ) (l : LineData) → IsDefinite p x rule
    → length node ≡ product_count p → rule.HasNumbers node us → l ≡ line rule.shape us → length (line_text l.shape l.numbers) < 40000
numbers_short p x rule node us l d each has is =
    let own = d.line node us each has in
    subst (λ (z : LineData). length (line_text z.shape z.numbers) < 40000) (sym is) (line_short rule.shape us own.0 own.1)

-- ---- There is a tree.

node_decided : (p : ProblemData) (x : List Bool) (rule : Rule) → IsDefinite p x rule → (node : List Mark) → length node ≡ product_count p
    → IsDecided (SearchLeaf p x rule) rule.BranchesOn node
node_decided p x rule d node each = by_clash (clashes p node)
  where
    us : List ℕ
    us = (d.some node each).0

    has : rule.HasNumbers node us
    has = (d.some node each).1

    by_branch : (Clashes p node → ⊥) → (Closes p x node rule.shape us → ⊥) → ((i : ℕ) × rule.BranchesOn node i) ⊎ IsSettled node
        → IsDecided (SearchLeaf p x rule) rule.BranchesOn node
    by_branch free other (inr full) = absurd (other (d.settled node us each full free has))
    by_branch free other (inl found) = inr (none_says p x rule node us d free has other, (found.0, d.open_mark node found.0 found.1, found.1))

    by_close : (Clashes p node → ⊥) → Decided (Closes p x node rule.shape us) → IsDecided (SearchLeaf p x rule) rule.BranchesOn node
    by_close free (inl k) = inl (line_text rule.shape us, inr (free, (us, refl, has, k)))
    by_close free (inr other) = by_branch free other (d.branch node)

    by_clash : Decided (Clashes p node) → IsDecided (SearchLeaf p x rule) rule.BranchesOn node
    by_clash (inl c) = inl (line_text S.Clash [], inl (c, refl))
    by_clash (inr free) = by_close free (d.decided node us each has)

-- A node without a leaf has an Open product.
pub some_open : (p : ProblemData) (x : List Bool) (rule : Rule) (node : List Mark) → IsDefinite p x rule → length node ≡ product_count p
    → ((l : List ℕ) → SearchLeaf p x rule node l → ⊥) → IsSettled node → ⊥
some_open p x rule node d each none full =
    let own = d.some node each in
    none (line_text rule.shape own.0) (inr (free, (own.0, refl, own.1, d.settled node own.0 each full free own.1)))
  where
    free : Clashes p node → ⊥
    free c = none (line_text S.Clash []) (inl (c, refl))

-- A search of a problem with a best assortment has a tree, which is the rule's.
pub tree_of : (p : ProblemData) (x : List Bool) (rule : Rule) (node : List Mark) → IsDefinite p x rule → length node ≡ product_count p
    → (tree : Tree) × IsSearchTree p x rule node tree × IsRuleTree (SearchLeaf p x rule) rule.BranchesOn node (text_tree tree)
tree_of p x rule node d each =
    let own = rule_tree (SearchLeaf p x rule) rule.BranchesOn (product_count p) (node_decided p x rule d) node each in
    let lines = rule_is_search p x rule node own.0 own.1 in
    (lines.0, lines.1, subst (λ t. IsRuleTree (SearchLeaf p x rule) rule.BranchesOn node t) (sym lines.2) own.1)

-- ---- Its leaves close their nodes.

leaf_closes_node : (p : ProblemData) (x : List Bool) (rule : Rule) (node : List Mark) (s : Shape) (us : List ℕ) → IsSearchTree p x rule node (leaf s us)
    → Closes p x node s us
leaf_closes_node p x rule node s us (inl h) = rw (h.1, h.2) (refl, h.0)
leaf_closes_node p x rule node s us (inr h) = rw h.1 h.3

-- A search's tree closes its node.
pub tree_closes : (p : ProblemData) (x : List Bool) (rule : Rule) (node : List Mark) (tree : Tree) → IsDefinite p x rule → IsSearchTree p x rule node tree
    → TreeCloses p x node tree
tree_closes p x rule node (leaf s us) d h = leaf_closes_node p x rule node s us h
tree_closes p x rule node (branch i inside outside) d h =
    (d.open_mark node i h.2, tree_closes p x rule (slice_set node i In) inside d h.3, tree_closes p x rule (slice_set node i Out) outside d h.4)

-- Its lines are lines.
pub tree_lines_are : (p : ProblemData) (x : List Bool) (rule : Rule) (node : List Mark) (tree : Tree) → IsDefinite p x rule → IsSearchTree p x rule node tree
    → length node ≡ product_count p → product_count p < 2 ^ 64 → (rest : List LineData) → AreLines rest → AreLines (tree_lines tree rest)
tree_lines_are p x rule node (leaf s us) d (inl h) each few rest all = rw (h.1, h.2) (refl, all)
tree_lines_are p x rule node (leaf s us) d (inr h) each few rest all = rw h.1 ((d.line node us each h.2).0, all)
tree_lines_are p x rule node (branch i inside outside) d h each few rest all = (
  branch_is_line i (let l = open_inside node i (d.open_mark node i h.2) in omega arith),
  tree_lines_are p x rule (slice_set node i In) inside d h.3 (rw length-set each) few (tree_lines outside rest)
      (tree_lines_are p x rule (slice_set node i Out) outside d h.4 (rw length-set each) few rest all),
)

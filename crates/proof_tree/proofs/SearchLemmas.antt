-- The trees of searches are those of a rule.
use Rattle.std.proofs.Common.{◌≡◌, ℕ, Bool, List, [], refl, sym, ◌∙◌, ap, inl, inr}
use Rattle.std.specs.Prelude.{slice_set}
use Rattle.offer_model.specs.declared.node.Mark.{Mark}
use Rattle.offer_model.specs.declared.node.Mark.TheVariants.{In, Out}
use Rattle.offer_model.specs.Problems.{ProblemData}
use Rattle.offer_model.specs.Nodes.{Clashes}
use Rattle.proof_lines.specs.declared.line.Shape.TheVariants as S
use Rattle.proof_lines.specs.Lines.{line_text}
use Rattle.proof_lines.specs.Trees.{Tree}
use Rattle.proof_lines.specs.Trees.Tree.{leaf as line_leaf, branch as line_branch}
use Rattle.proof_lines.specs.Writing.{Rule, IsSearchTree}
use Rattle.proof_tree.specs.Trees.{TextTree}
use Rattle.proof_tree.specs.Trees.TextTree.{leaf, branch}
use Rattle.proof_tree.specs.Rules.{IsRuleTree}
use Rattle.proof_tree.specs.LineLeaves.{text_tree}
use Rattle.proof_tree.specs.SearchRules.{SearchLeaf}

-- A search's tree is the rule's.
pub search_is_rule : (p : ProblemData) (x : List Bool) (rule : Rule) (node : List Mark) (tree : Tree) → IsSearchTree p x rule node tree
    → IsRuleTree (SearchLeaf p x rule) rule.BranchesOn node (text_tree tree)
search_is_rule p x rule node (line_leaf s us) (inl h) = inl (h.0, rw h.1 refl)
search_is_rule p x rule node (line_leaf s us) (inr h) = inr (h.0, (us, ap (λ z. line_text z us) h.1, h.2, h.3))
search_is_rule p x rule node (line_branch i inside outside) h = (
  λ l. none l,
  h.2,
  search_is_rule p x rule (slice_set node i In) inside h.3,
  search_is_rule p x rule (slice_set node i Out) outside h.4,
)
  where
    none : (l : List ℕ) → SearchLeaf p x rule node l → ⊥
    none l (inl k) = h.0 k.0
    none l (inr k) = h.1 k.1.0 k.1.2 k.1.3

-- And each of the rule's is the text of a search's.
pub rule_is_search : (p : ProblemData) (x : List Bool) (rule : Rule) (node : List Mark) (t : TextTree) → IsRuleTree (SearchLeaf p x rule) rule.BranchesOn node t
    → (tree : Tree) × IsSearchTree p x rule node tree × (text_tree tree ≡ t)
rule_is_search p x rule node (leaf l) (inl h) = (line_leaf S.Clash [], inl (h.0, refl, refl), ap (λ z. leaf z) (sym h.1))
rule_is_search p x rule node (leaf l) (inr h) = (line_leaf rule.shape h.1.0, inr (h.0, refl, h.1.2, h.1.3), ap (λ z. leaf z) (sym h.1.1))
rule_is_search p x rule node (branch i inside outside) h =
    let one = rule_is_search p x rule (slice_set node i In) inside h.2 in
    let two = rule_is_search p x rule (slice_set node i Out) outside h.3 in (
      line_branch i one.0 two.0,
      (
        λ k. h.0 (line_text S.Clash []) (inl (k, refl)),
        λ us n c. h.0 (line_text rule.shape us) (inr (free, (us, refl, n, c))),
        h.1,
        one.1,
        two.1,
      ),
      ap (λ z. branch i z (text_tree two.0)) one.2 ∙ ap (λ z. branch i inside z) two.2,
    )
  where
    free : Clashes p node → ⊥
    free k = h.0 (line_text S.Clash []) (inl (k, refl))

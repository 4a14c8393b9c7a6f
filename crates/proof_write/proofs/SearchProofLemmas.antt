-- The certificate of a search is one that writers may write.
use Rattle.std.proofs.Common.{◌≡◌, ℕ, ◌<◌, ◌^◌, Bool, true, false, List, [], ◌∷◌, ◌++◌, length, refl, sym, arith, subst, Result, Some, None}
use Rattle.std.specs.Prelude.{◌==◌, ◌||◌, ◌&&◌, if◌then◌else◌}
use Rattle.std.specs.List.{list_all}
use Rattle.std.proofs.lemmas.List.{length-replicate}
use Rattle.offer_io.specs.Stores.{StoreView}
use Rattle.offer_model.specs.declared.node.Mark.TheVariants.{Open}
use Rattle.offer_model.specs.declared.products.Limit.{Limit}
use Rattle.offer_model.specs.declared.products.ModelName.{ModelName}
use Rattle.offer_model.specs.declared.products.ModelName.TheVariants.{Logit, Attract, Mixed, Chain}
use Rattle.offer_model.specs.Branching.{IsFirstOpen, IsDearestOpen}
use Rattle.offer_model.specs.Nodes.{open_node}
use Rattle.offer_model.specs.Problems.{ProblemData, product_count}
use Rattle.offer_model.specs.Validity.{IsProblem, IsRatioModel, is_cap, is_requires, is_shelf, is_ladder}
use Rattle.limit_rules.specs.declared.kind.Kind.TheVariants as K
use Rattle.limit_rules.specs.Kinds.{kind_of}
use Rattle.proof_lines.specs.declared.line.Line.{Line}
use Rattle.proof_lines.specs.declared.line.Shape.TheVariants as S
use Rattle.proof_lines.specs.Lines.{line, text_of}
use Rattle.proof_lines.specs.Trees.{Tree}
use Rattle.proof_lines.specs.Writing.{Rule, IsSearchTree, ratio_rule, mixed_rule, exact_leaf, RatioForm, FormUnder}
use Rattle.proof_tree.specs.Feeding.{joined}
use Rattle.proof_tree.specs.LineLeaves.{text_tree}
use Rattle.proof_tree.specs.Pens.{lines_data}
use Rattle.proof_tree.specs.Puts.{Puts}
use Rattle.proof_tree.specs.Rules.{IsRuleTree}
use Rattle.proof_tree.specs.SearchRules.{SearchLeaf}
use Rattle.proof_tree.specs.Trees.{TextTree, tree_texts, end_text}
use Rattle.proof_write.specs.HeaderLines.{IsHeader}
use Rattle.proof_write.specs.Searches.{SearchData}
use Rattle.proof_write.proofs.SearchLemmas.{IsDefinite, tree_of, tree_closes, tree_lines_are}
use Rattle.proof_write.proofs.WrittenLemmas.{IsClaimed, written, ratio_form, WritesProof, writes_proof}
use Rattle.proof_write.proofs.ZeroRuleLemmas.{zero_rule_definite}
use Rattle.proof_write.proofs.MixedRuleLemmas.{mixed_rule_definite}

-- Limits of several kinds have no leaf whose bound is exact.

none_by : (none caps requires shelf ladders : Bool)
    → (if none then K.Free else (if caps then K.Caps else (if requires then K.Closure else (if shelf then K.Shelf else (if ladders then K.Ladder else K.General))))) ≡ K.General
    → (if caps || requires then Some S.Multipliers else (if shelf then Some S.Shelf else (if ladders then Some S.Potentials else None))) ≡ None
none_by true b c d e h = cc
none_by false true c d e h = cc
none_by false false true d e h = cc
none_by false false false true e h = cc
none_by false false false false true h = cc
none_by false false false false false h = refl

none_exact : (limits : List Limit) → kind_of limits ≡ K.General → exact_leaf limits ≡ None
none_exact limits h = none_by (length limits == 0) (list_all is_cap limits) (list_all is_requires limits)
    (list_all is_shelf limits && (length limits == 1)) (list_all is_ladder limits) h

-- Where the bytes of the rule's tree are written, those of a certificate are.
pub search_writes : {T E : Type 0} (p : ProblemData) (x : List Bool) (rule_of : ProblemData → Rule) (header : List Line) (old new : StoreView) (result : Result T E)
    (r : SearchData) (n : ℕ) → r.problem ≡ p → r.best ≡ x → n ≡ product_count p → IsClaimed p x → IsHeader p x header → IsDefinite p x (rule_of p)
    → ((tree : Tree) → IsSearchTree p x (rule_of p) (open_node (product_count p)) tree → FormUnder p.model p x tree)
    → ((tree : TextTree) → IsRuleTree (SearchLeaf r.problem r.best (rule_of r.problem)) (rule_of r.problem).BranchesOn (open_node n) tree
    → Puts old (text_of (lines_data header) ++ joined (tree_texts tree (end_text ∷ []))) result new)
    → WritesProof p old result new
search_writes p x rule_of header old new result r n same best is f g d form h =
    let root = open_node (product_count p) in
    let each : length root ≡ product_count p = length-replicate (product_count p) Open in
    let few : product_count p < 2 ^ 64 = (let same = f.best.feasible.0 in let most = f.few in omega arith) in
    let own = tree_of p x (rule_of p) root d each in
    writes_proof p x own.0 header old new result g
    (written p x own.0 f (tree_closes p x (rule_of p) root own.0 d own.1)
    (tree_lines_are p x (rule_of p) root own.0 d own.1 each few (line S.End [] ∷ []) (refl, tt)) (form own.0 own.1))
    (h (text_tree own.0)
    (subst (λ (z : ProblemData). IsRuleTree (SearchLeaf z r.best (rule_of z)) (rule_of z).BranchesOn (open_node n) (text_tree own.0)) (sym same)
    (subst (λ (z : List Bool). IsRuleTree (SearchLeaf p z (rule_of p)) (rule_of p).BranchesOn (open_node n) (text_tree own.0)) (sym best)
    (subst (λ (z : ℕ). IsRuleTree (SearchLeaf p x (rule_of p)) (rule_of p).BranchesOn (open_node z) (text_tree own.0)) (sym is) own.2))))

-- So those of limits of several kinds.
pub zeros_write : {T E : Type 0} (p : ProblemData) (x : List Bool) (header : List Line) (old new : StoreView) (result : Result T E)
    (r : SearchData) (n : ℕ) → r.problem ≡ p → r.best ≡ x → n ≡ product_count p → IsProblem p → IsRatioModel p.model → kind_of p.limits ≡ K.General
    → IsClaimed p x → IsHeader p x header
    → ((tree : TextTree) → IsRuleTree (SearchLeaf r.problem r.best (ratio_rule r.problem)) (λ m i. IsFirstOpen m i) (open_node n) tree
    → Puts old (text_of (lines_data header) ++ joined (tree_texts tree (end_text ∷ []))) result new)
    → WritesProof p old result new
zeros_write p x header old new result r n same best is valid ratio kind f g h =
    search_writes p x ratio_rule header old new result r n same best is f g (zero_rule_definite p x valid ratio f.best)
    (λ tree own. ratio_form p x tree ratio (subst (λ s. RatioForm p x s tree) (sym (none_exact p.limits kind)) own)) h

mixed_form : (m : ModelName) (p : ProblemData) (x : List Bool) (tree : Tree) → m ≡ Mixed → IsSearchTree p x (mixed_rule p) (open_node (product_count p)) tree
    → FormUnder m p x tree
mixed_form Mixed p x tree e h = h
mixed_form Logit p x tree e h = cc
mixed_form Attract p x tree e h = cc
mixed_form Chain p x tree e h = cc

-- And those of mixed logit.
pub mixed_writes : {T E : Type 0} (p : ProblemData) (x : List Bool) (header : List Line) (old new : StoreView) (result : Result T E)
    (r : SearchData) (n : ℕ) → r.problem ≡ p → r.best ≡ x → n ≡ product_count p → IsProblem p → p.model ≡ Mixed → IsClaimed p x → IsHeader p x header
    → ((tree : TextTree) → IsRuleTree (SearchLeaf r.problem r.best (mixed_rule r.problem)) (λ m i. IsDearestOpen r.problem m i) (open_node n) tree
    → Puts old (text_of (lines_data header) ++ joined (tree_texts tree (end_text ∷ []))) result new)
    → WritesProof p old result new
mixed_writes p x header old new result r n same best is valid mixed f g h =
    search_writes p x mixed_rule header old new result r n same best is f g (mixed_rule_definite p x valid mixed f.best)
    (λ tree own. mixed_form p.model p x tree mixed own) h

-- How the trees that a rule fixes are written node by node.
use Rattle.std.proofs.Common.{◌≡◌, ◌∙◌, ℕ, zero, suc, ◌+◌, ◌<◌, ◌↔◌, ◌⊎◌, inl, inr, length-set, List, [], ◌∷◌, ◌++◌, length, drop, refl, sym, ap, arith, subst, true, Ok, Err, Result, append_assoc}
use Rattle.std.specs.Prelude.{slice_set, IsErr}
use Rattle.offer_model.specs.declared.node.Mark.{Mark}
use Rattle.offer_model.specs.declared.node.Mark.TheVariants.{In, Out, Open}
use Rattle.offer_model.specs.Nodes.{mark_at, opens, one_if_open}
use Rattle.offer_model.proofs.NodeLemmas.{open_inside}
use Rattle.offer_io.specs.Stores.{StoreView}
use Rattle.offer_io.specs.declared.devices.Failed.{Failed}
use Rattle.proof_tree.specs.Feeding.{joined}
use Rattle.proof_tree.specs.Paths.{first_of, branched}
use Rattle.proof_tree.specs.Trees.{TextTree, branch_text, end_text, tree_texts}
use Rattle.proof_tree.specs.Trees.TextTree.{leaf, branch}
use Rattle.proof_tree.specs.Rules.{IsRuleTree, AreRuleLines, SaysLeaf, node_count, node_counts, GoesOn}
use Rattle.proof_tree.specs.Puts.{Puts}
use Rattle.proof_tree.proofs.StandLemmas.{opens-set}
use Rattle.proof_tree.proofs.PutLemmas.{puts_then, puts_stop, IsPutSoFar, more_so_far, stops_so_far, all_so_far}

-- ---- Fewer nodes are left.

-- A product that was Open and isn't any more is one less.
settled : (node : List Mark) (k : ℕ) (m : Mark) → mark_at node k ≡ Open → one_if_open m ≡ 0 → suc (opens (slice_set node k m)) ≡ opens node
settled node k m o shut =
    let change = opens-set node k m (open_inside node k o) in
    let one : one_if_open (mark_at node k) ≡ 1 = ap one_if_open o in
    omega arith

some_count : (d : ℕ) → 0 < node_count d
some_count zero = omega arith
some_count (suc d) = omega arith

leaf_fewer : (node : List Mark) (nodes : List (List Mark)) → node_counts nodes < node_counts (node ∷ nodes)
leaf_fewer node nodes = let some = some_count (opens node) in omega arith

branch_fewer : (node : List Mark) (nodes : List (List Mark)) (k : ℕ) → mark_at node k ≡ Open
    → node_counts (slice_set node k In ∷ slice_set node k Out ∷ nodes) < node_counts (node ∷ nodes)
branch_fewer node nodes k e =
    let within : opens node ≡ suc (opens (slice_set node k In)) = sym (settled node k In e refl) in
    let without = settled node k Out e refl in
    let same : opens (slice_set node k Out) ≡ opens (slice_set node k In) = omega arith in
    let whole : node_count (opens node) ≡ suc (node_count (opens (slice_set node k In)) + node_count (opens (slice_set node k In))) = ap node_count within in
    let other : node_count (opens (slice_set node k Out)) ≡ node_count (opens (slice_set node k In)) = ap node_count same in
    omega arith

-- ---- A line.

-- The first node's line comes first.
abbrev Next : (List Mark → List ℕ → Type 0) → (List Mark → ℕ → Type 0) → List (List Mark) → List ℕ → List (List ℕ) → Type 0
Next L B after text ls = (rest : List (List ℕ)) × AreRuleLines L B after rest × (joined ls ≡ text ++ joined rest)

leaf_next : (L : List Mark → List ℕ → Type 0) (B : List Mark → ℕ → Type 0) (node : List Mark) (nodes : List (List Mark)) (text : List ℕ) (tree : TextTree) (rest : List (List ℕ))
    → SaysLeaf (L node) text true → IsRuleTree L B node tree → AreRuleLines L B nodes rest → Next L B nodes text (tree_texts tree rest)
leaf_next L B node nodes text (leaf m) rest says own after =
    (rest, after, ap (λ z. z ++ 10 ∷ joined rest) (says.3 m own) ∙ sym (append_assoc says.0 (10 ∷ []) (joined rest)) ∙ ap (λ z. z ++ joined rest) (sym says.1))
leaf_next L B node nodes text (branch i inside outside) rest says own after = absurd (own.0 says.0 says.2)

branch_next : (L : List Mark → List ℕ → Type 0) (B : List Mark → ℕ → Type 0) (node : List Mark) (nodes : List (List Mark)) (k : ℕ) (tree : TextTree) (rest : List (List ℕ))
    → ((m : List ℕ) → L node m → ⊥) → ((j : ℕ) → B node j ↔ (j ≡ k)) → IsRuleTree L B node tree → AreRuleLines L B nodes rest
    → Next L B (slice_set node k In ∷ slice_set node k Out ∷ nodes) (branch_text k ++ 10 ∷ []) (tree_texts tree rest)
branch_next L B node nodes k (leaf m) rest none only own after = absurd (none m own)
branch_next L B node nodes k (branch i inside outside) rest none only own after =
    let same : i ≡ k = (only i).0 own.1 in
    let P : ℕ → Type 0 = λ j. IsRuleTree L B (slice_set node j In) inside in
    let Q : ℕ → Type 0 = λ j. IsRuleTree L B (slice_set node j Out) outside in
    let lines = tree_texts inside (tree_texts outside rest) in (
      lines,
      (inside, tree_texts outside rest, refl, subst P same own.2, (outside, rest, refl, subst Q same own.3, after)),
      ap (λ j. branch_text j ++ 10 ∷ joined lines) same ∙ sym (append_assoc (branch_text k) (10 ∷ []) (joined lines)),
    )

-- A leaf leads on to the nodes that follow.
pub goes_leaf : (L : List Mark → List ℕ → Type 0) (B : List Mark → ℕ → Type 0) (nodes : List (List Mark)) (text : List ℕ) → 0 < length nodes
    → SaysLeaf (L (first_of nodes)) text true → GoesOn L B nodes (drop 1 nodes) text
goes_leaf L B [] text some says = absurd (omega arith)
goes_leaf L B (node ∷ nodes) text some says = record {
  lines = λ ls h. subst (λ z. Next L B nodes text z) (sym h.2) (leaf_next L B node nodes text h.0 h.1 says h.3 h.4);
  fewer = leaf_fewer node nodes;
}

-- A branch leads on to its two sides.
pub goes_branch : (L : List Mark → List ℕ → Type 0) (B : List Mark → ℕ → Type 0) (nodes : List (List Mark)) (k : ℕ) → 0 < length nodes
    → ((m : List ℕ) → L (first_of nodes) m → ⊥) → mark_at (first_of nodes) k ≡ Open → ((j : ℕ) → B (first_of nodes) j ↔ (j ≡ k))
    → GoesOn L B nodes (branched k nodes) (branch_text k ++ 10 ∷ [])
goes_branch L B [] k some none o only = absurd (omega arith)
goes_branch L B (node ∷ nodes) k some none o only = record {
  lines = λ ls h. subst (λ z. Next L B (slice_set node k In ∷ slice_set node k Out ∷ nodes) (branch_text k ++ 10 ∷ []) z) (sym h.2) (branch_next L B node nodes k h.0 h.1 none only h.3 h.4);
  fewer = branch_fewer node nodes k o;
}

-- ---- All lines.

-- The lines are written up to those of the nodes that wait.
abbrev pub IsWrittenSoFar : (List Mark → List ℕ → Type 0) → (List Mark → ℕ → Type 0) → StoreView → List (List ℕ) → List (List Mark) → StoreView → Type 0
IsWrittenSoFar L B old ls nodes now = (rest : List (List ℕ)) × AreRuleLines L B nodes rest × IsPutSoFar old (joined ls) (joined rest) now

-- The line of the first node is written.
pub one_more : (L : List Mark → List ℕ → Type 0) (B : List Mark → ℕ → Type 0) (old mid new : StoreView) (ls : List (List ℕ)) (nodes after : List (List Mark)) (text : List ℕ)
    → GoesOn L B nodes after text → IsWrittenSoFar L B old ls nodes mid → Puts {T = Unit {0}} {E = Failed} mid text (Ok tt) new → IsWrittenSoFar L B old ls after new
one_more L B old mid new ls nodes after text on h w =
    let step = on.lines h.0 h.1 in
    (step.0, step.1, more_so_far old mid new (joined ls) (joined h.0) text (joined step.0) step.2 h.2 w)

-- The line of the first node is not written whole.
pub no_more : {T : Type 0} (L : List Mark → List ℕ → Type 0) (B : List Mark → ℕ → Type 0) (old mid new : StoreView) (ls : List (List ℕ)) (nodes after : List (List Mark)) (text : List ℕ)
    (e : Failed) (result : Result T Failed) → IsErr result → GoesOn L B nodes after text → IsWrittenSoFar L B old ls nodes mid
    → Puts {T = Unit {0}} {E = Failed} mid text (Err e) new → Puts old (joined ls) result new
no_more L B old mid new ls nodes after text e result failed on h w =
    let step = on.lines h.0 h.1 in
    stops_so_far old mid new (joined ls) (joined h.0) text (joined step.0) e result failed step.2 h.2 w

-- No node waits.
pub all_written : {T : Type 0} (L : List Mark → List ℕ → Type 0) (B : List Mark → ℕ → Type 0) (old now : StoreView) (ls : List (List ℕ)) (nodes : List (List Mark)) (t : T)
    → length nodes ≡ 0 → IsWrittenSoFar L B old ls nodes now → Puts {T = T} {E = Failed} old (joined ls) (Ok t) now
all_written L B old now ls (node ∷ nodes) t none h = absurd (omega arith)
all_written L B old now ls [] t none h = all_so_far old now (joined ls) (joined h.0) t (ap joined h.1) h.2

joined-append : (ls ms : List (List ℕ)) → joined (ls ++ ms) ≡ joined ls ++ joined ms
joined-append [] ms = refl
joined-append (l ∷ ls) ms = ap (λ z. l ++ 10 ∷ z) (joined-append ls ms) ∙ sym (append_assoc l (10 ∷ joined ls) (joined ms))

texts_before : (tree : TextTree) (inner rest : List (List ℕ)) → tree_texts tree inner ++ rest ≡ tree_texts tree (inner ++ rest)
texts_before (leaf l) inner rest = refl
texts_before (branch i inside outside) inner rest =
    ap (λ z. branch_text i ∷ z) (texts_before inside (tree_texts outside inner) rest ∙ ap (λ z. tree_texts inside z) (texts_before outside inner rest))

-- The text of a tree comes before that of the lines that follow.
pub tree_before : (tree : TextTree) (rest : List (List ℕ)) → joined (tree_texts tree rest) ≡ joined (tree_texts tree []) ++ joined rest
tree_before tree rest = ap joined (sym (texts_before tree [] rest)) ∙ joined-append (tree_texts tree []) rest

-- After the header the tree is not written whole.
pub stops_in_tree : {T : Type 0} (old mid new : StoreView) (header : List ℕ) (tree : TextTree) (e : Failed) (result : Result T Failed) → IsErr result
    → Puts {T = Unit {0}} {E = Failed} old header (Ok tt) mid → Puts {T = Unit {0}} {E = Failed} mid (joined (tree_texts tree [])) (Err e) new
    → Puts old (header ++ joined (tree_texts tree (end_text ∷ []))) result new
stops_in_tree old mid new header tree e result failed first next =
    puts_then old mid new header (joined (tree_texts tree (end_text ∷ []))) tt result first
    (subst (λ z. Puts mid z result new) (sym (tree_before tree (end_text ∷ []))) (puts_stop mid new (joined (tree_texts tree [])) (end_text ++ 10 ∷ []) e result failed next))

-- After the header and the tree comes the end.
pub ends_after_tree : {T : Type 0} (old mid last new : StoreView) (header : List ℕ) (tree : TextTree) (text : List ℕ) (result : Result T Failed) → text ≡ end_text ++ 10 ∷ []
    → Puts {T = Unit {0}} {E = Failed} old header (Ok tt) mid → Puts {T = Unit {0}} {E = Failed} mid (joined (tree_texts tree [])) (Ok tt) last → Puts last text result new
    → Puts old (header ++ joined (tree_texts tree (end_text ∷ []))) result new
ends_after_tree old mid last new header tree text result is first next end =
    puts_then old mid new header (joined (tree_texts tree (end_text ∷ []))) tt result first
    (subst (λ z. Puts mid z result new) (sym (tree_before tree (end_text ∷ [])))
    (puts_then mid last new (joined (tree_texts tree [])) (end_text ++ 10 ∷ []) tt result next (subst (λ z. Puts last z result new) is end)))

-- ---- There is one tree at least, where each node has a leaf or a branch.

-- The node has a leaf, or none and a branch on an Open product.
abbrev pub IsDecided : (List Mark → List ℕ → Type 0) → (List Mark → ℕ → Type 0) → List Mark → Type 0
IsDecided L B node = ((l : List ℕ) × L node l) ⊎ (((l : List ℕ) → L node l → ⊥) × ((i : ℕ) × (mark_at node i ≡ Open) × B node i))

tree_at : (L : List Mark → List ℕ → Type 0) (B : List Mark → ℕ → Type 0) (node : List Mark)
    → ((i : ℕ) → mark_at node i ≡ Open → ((tree : TextTree) × IsRuleTree L B (slice_set node i In) tree) × ((tree : TextTree) × IsRuleTree L B (slice_set node i Out) tree))
    → IsDecided L B node → (tree : TextTree) × IsRuleTree L B node tree
tree_at L B node deeper (inl own) = (leaf own.0, own.1)
tree_at L B node deeper (inr own) =
    let sides = deeper own.1.0 own.1.1 in
    (branch own.1.0 sides.0.0 sides.1.0, (own.0, own.1.2, sides.0.1, sides.1.1))

tree_within : (L : List Mark → List ℕ → Type 0) (B : List Mark → ℕ → Type 0) (n : ℕ) → ((node : List Mark) → length node ≡ n → IsDecided L B node)
    → (d : ℕ) (node : List Mark) → opens node < d → length node ≡ n → (tree : TextTree) × IsRuleTree L B node tree
tree_within L B n decided zero node few each = absurd (omega arith)
tree_within L B n decided (suc d) node few each = tree_at L B node (λ i o. (
  tree_within L B n decided d (slice_set node i In) (let one = settled node i In o refl in omega arith) (length-set node i In ∙ each),
  tree_within L B n decided d (slice_set node i Out) (let one = settled node i Out o refl in omega arith) (length-set node i Out ∙ each),
)) (decided node each)

-- A rule has a tree, where it has a leaf or a branch at each node.
pub rule_tree : (L : List Mark → List ℕ → Type 0) (B : List Mark → ℕ → Type 0) (n : ℕ) → ((node : List Mark) → length node ≡ n → IsDecided L B node)
    → (node : List Mark) → length node ≡ n → (tree : TextTree) × IsRuleTree L B node tree
rule_tree L B n decided node each = tree_within L B n decided (suc (opens node)) node (omega arith) each

-- ---- There is one at most, where each node has one leaf and one branch at most.

-- The rule has one tree at most.
pub one_tree : (L : List Mark → List ℕ → Type 0) (B : List Mark → ℕ → Type 0) → ((node : List Mark) (l m : List ℕ) → L node l → L node m → l ≡ m)
    → ((node : List Mark) (i j : ℕ) → B node i → B node j → i ≡ j) → (node : List Mark) (t u : TextTree) → IsRuleTree L B node t → IsRuleTree L B node u → t ≡ u
one_tree L B one side node (leaf l) (leaf m) h k = ap (λ z. leaf z) (one node l m h k)
one_tree L B one side node (leaf l) (branch j c d) h k = absurd (k.0 l h)
one_tree L B one side node (branch i a b) (leaf m) h k = absurd (h.0 m k)
one_tree L B one side node (branch i a b) (branch j c d) h k =
    let same = side node i j h.1 k.1 in
    let P : ℕ → Type 0 = λ z. IsRuleTree L B (slice_set node z In) c in
    let Q : ℕ → Type 0 = λ z. IsRuleTree L B (slice_set node z Out) d in
    let e = one_tree L B one side (slice_set node i In) a c h.2 (subst P (sym same) k.2) in
    let f = one_tree L B one side (slice_set node i Out) b d h.3 (subst Q (sym same) k.3) in
    let r : branch i a b ≡ branch j c d = cc in
    r

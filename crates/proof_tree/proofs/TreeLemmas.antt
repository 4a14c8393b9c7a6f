-- Where a line of a tree leads.
use Rattle.std.proofs.Common.{◌≡◌, ℕ, zero, suc, Bool, false, IsTrue, List, [], ◌∷◌, length, refl, sym, ◌∙◌, ap, subst, arith, ◌<◌, ◌↔◌, ◌⊎◌, inl, inr}
use Rattle.std.specs.Prelude.{slice_set, slice_get, Option, Some, None}
use Rattle.std.proofs.lemmas.Option.{get_or_from_slice_get}
use Rattle.offer_model.specs.declared.node.Mark.{Mark}
use Rattle.offer_model.specs.declared.node.Mark.TheVariants.{In, Out, Open}
use Rattle.offer_model.specs.Nodes.{mark_at}
use Rattle.proof_lines.specs.declared.line.Shape.{Shape}
use Rattle.proof_lines.specs.declared.line.Shape.TheVariants as S
use Rattle.proof_lines.specs.Lines.{line_text, IsLine}
use Rattle.proof_lines.proofs.LinesDiffer.{one_spelling}
use Rattle.proof_tree.specs.Paths.{branched}
use Rattle.proof_tree.specs.Trees.{Spells, TextTree, branch_text, end_text, tree_texts, TreeCloses, AreTrees, TreePhase, TreeWaits, TreeLeads, IsRead}
use Rattle.proof_tree.specs.Trees.TextTree.{leaf, branch}
use Rattle.proof_tree.specs.Trees.TreePhase.{in_trees, at_end, refused}
use Rattle.proof_tree.specs.Stages.{EndsBy, BranchesBy, LeavesBy}

-- ---- Line by line.

-- The lines are those of trees that close these nodes, and the end: said of the first line.
abbrev pub TreesTake : (List Mark → List ℕ → Type 0) → List (List Mark) → List (List ℕ) → Type 0
TreesTake C [] [] = ⊥
TreesTake C (node ∷ nodes) [] = ⊥
TreesTake C [] (l ∷ ls) = (l ≡ end_text) × (ls ≡ [])
TreesTake C (node ∷ nodes) (l ∷ ls) =
    ((i : ℕ) × Spells S.Branch (i ∷ []) l × (mark_at node i ≡ Open) × TreesTake C (slice_set node i In ∷ slice_set node i Out ∷ nodes) ls)
    ⊎ (C node l × TreesTake C nodes ls)

tree_takes : (C : List Mark → List ℕ → Type 0) (node : List Mark) (nodes : List (List Mark)) (tree : TextTree) (rest : List (List ℕ))
    → TreeCloses C node tree → TreesTake C nodes rest → TreesTake C (node ∷ nodes) (tree_texts tree rest)
tree_takes C node nodes (leaf l) rest k h = inr (k, h)
tree_takes C node nodes (branch i inside outside) rest k h =
    inl (
      i,
      (k.0, refl),
      k.1,
      tree_takes C (slice_set node i In) (slice_set node i Out ∷ nodes) inside (tree_texts outside rest) k.2
          (tree_takes C (slice_set node i Out) nodes outside rest k.3 h),
    )

-- What is said of whole trees holds line by line.
pub trees_take : (C : List Mark → List ℕ → Type 0) (nodes : List (List Mark)) (ls : List (List ℕ)) → AreTrees C nodes ls → TreesTake C nodes ls
trees_take C [] [] g = cc
trees_take C [] (l ∷ ls) g = (cc, cc)
trees_take C (node ∷ nodes) ls g = subst (λ z. TreesTake C (node ∷ nodes) z) (sym g.2) (tree_takes C node nodes g.0 g.1 g.3 (trees_take C nodes g.1 g.4))

grown_branch : (C : List Mark → List ℕ → Type 0) (node : List Mark) (nodes : List (List Mark)) (l : List ℕ) (ls : List (List ℕ)) (i : ℕ)
    → Spells S.Branch (i ∷ []) l → mark_at node i ≡ Open → AreTrees C (slice_set node i In ∷ slice_set node i Out ∷ nodes) ls → AreTrees C (node ∷ nodes) (l ∷ ls)
grown_branch C node nodes l ls i e o g = (branch i g.0 g.4.0, g.4.1, together, (e.0, o, g.3, g.4.3), g.4.4)
  where
    together : l ∷ ls ≡ branch_text i ∷ tree_texts g.0 (tree_texts g.4.0 g.4.1)
    together = subst (λ z. l ∷ ls ≡ z ∷ tree_texts g.0 (tree_texts g.4.0 g.4.1)) e.1 (ap (λ z. l ∷ z) (g.2 ∙ ap (λ z. tree_texts g.0 z) g.4.2))

-- And what holds line by line is true of whole trees.
pub take_trees : (C : List Mark → List ℕ → Type 0) (nodes : List (List Mark)) (ls : List (List ℕ)) → TreesTake C nodes ls → AreTrees C nodes ls
take_trees C [] [] h = absurd h
take_trees C (node ∷ nodes) [] h = absurd h
take_trees C [] (l ∷ ls) h = subst (λ z. z ∷ ls ≡ end_text ∷ []) (sym h.0) (ap (λ z. end_text ∷ z) h.1)
take_trees C (node ∷ nodes) (l ∷ ls) (inl h) =
    grown_branch C node nodes l ls h.0 h.1 h.2 (take_trees C (slice_set node h.0 In ∷ slice_set node h.0 Out ∷ nodes) ls h.3)
take_trees C (node ∷ nodes) (l ∷ ls) (inr h) = (leaf l, ls, refl, h.0, take_trees C nodes ls h.1)

-- ---- What is read.

-- Bytes that are the text of a line have been read as that line.
pub read_as : (l : List ℕ) (shape : Option Shape) (ns : List ℕ) (t : Shape) (ms : List ℕ) → IsRead l shape ns → Spells t ms l → (shape ≡ Some t) × (ns ≡ ms)
read_as l None ns t ms r k = absurd (r.none (t, ms, k.0, sym k.1))
read_as l (Some s) ns t ms r k = let same = one_spelling s t ns ms r.found k.0 (r.text ∙ k.1) in (ap (λ z. Some z) same.0, same.1)

-- Bytes that were read as a line are its text.
pub read_text : (l : List ℕ) (shape : Option Shape) (ns : List ℕ) (s : Shape) → IsRead l shape ns → shape ≡ Some s → Spells s ns l
read_text l None ns s r e = cc
read_text l (Some t) ns s r e =
    let same : t ≡ s = cc in
    (subst (λ z. IsLine z ns) same r.found, sym r.text ∙ ap (λ z. line_text z ns) same)

-- ---- After the last tree.

-- The end leads to the end, and no other line leads on.
pub end_leads : (C : List Mark → List ℕ → Type 0) (nodes : List (List Mark)) (l : List ℕ) (shape : Option Shape) (ns : List ℕ) (after : TreePhase)
    → length nodes ≡ 0 → IsRead l shape ns → EndsBy shape after → TreeLeads C (in_trees nodes) after l
end_leads C (node ∷ nodes) l shape ns after n r e = absurd (omega arith)
end_leads C [] l shape ns after n r (inl e) = rw e.1 (λ ls. (λ t. both ls t, λ t. let rest : ls ≡ [] = cc in rest))
  where
    is_end : l ≡ end_text
    is_end = (read_text l shape ns S.End r e.0).1

    both : (ls : List (List ℕ)) → ls ≡ [] → l ∷ ls ≡ end_text ∷ []
    both ls t = subst (λ z. z ∷ ls ≡ end_text ∷ []) (sym is_end) (ap (λ z. end_text ∷ z) t)
end_leads C [] l shape ns after n r (inr e) = rw e.1 (λ ls. (λ t. absurd t, λ t. e.0 (read_as l shape ns S.End [] r (refl, let first : l ≡ end_text = cc in first)).0))

-- ---- A branch.

-- A branch leads to the two nodes below it where its product is Open, and else to nothing.
pub branch_leads : (C : List Mark → List ℕ → Type 0) (nodes : List (List Mark)) (l : List ℕ) (ns : List ℕ) (i : ℕ) (after : TreePhase)
    → ((node : List Mark) (l : List ℕ) → C node (98 ∷ l) → ⊥) → 0 < length nodes → IsRead l (Some S.Branch) ns → ns ≡ i ∷ []
    → BranchesBy i nodes after → TreeLeads C (in_trees nodes) after l
branch_leads C nodes l ns i after never some r is by = λ ls. (λ t. take_back nodes ls some by t, λ t. go nodes ls some by (trees_take C nodes (l ∷ ls) t))
  where
    text : Spells S.Branch (i ∷ []) l
    text = subst (λ z. Spells S.Branch z l) is (r.found, sym r.text)

    one : (j : ℕ) → Spells S.Branch (j ∷ []) l → j ≡ i
    one j e =
        let same = (read_as l (Some S.Branch) ns S.Branch (j ∷ []) r e).1 in
        let whole : i ∷ [] ≡ j ∷ [] = sym is ∙ same in
        cc

    no_leaf : (node : List Mark) → C node l → ⊥
    no_leaf node k = never node _ (subst (λ z. C node z) text.1 k)

    take_back : (nodes : List (List Mark)) (ls : List (List ℕ)) → 0 < length nodes → BranchesBy i nodes after → TreeWaits C after ls → TreeWaits C (in_trees nodes) (l ∷ ls)
    take_back [] ls some by t = absurd (omega arith)
    take_back (node ∷ nodes) ls some (inl b) t = grown_branch C node nodes l ls i text b.0 (subst (λ z. TreeWaits C z ls) b.1 t)
    take_back (node ∷ nodes) ls some (inr b) t = absurd (subst (λ z. TreeWaits C z ls) b.1 t)

    go : (nodes : List (List Mark)) (ls : List (List ℕ)) → 0 < length nodes → BranchesBy i nodes after → TreesTake C nodes (l ∷ ls) → TreeWaits C after ls
    go [] ls some by t = absurd (omega arith)
    go (node ∷ nodes) ls some by (inr h) = absurd (no_leaf node h.0)
    go (node ∷ nodes) ls some (inr b) (inl h) = absurd (b.0 (subst (λ z. mark_at node z ≡ Open) (one h.0 h.1) h.2))
    go (node ∷ nodes) ls some (inl b) (inl h) =
        subst (λ z. TreeWaits C z ls) (sym b.1)
        (take_trees C (branched i (node ∷ nodes)) ls
        (subst (λ z. TreesTake C (slice_set node z In ∷ slice_set node z Out ∷ nodes) ls) (one h.0 h.1) h.3))

-- ---- A leaf.

-- Any other line leads to the nodes that follow where it closes the first, and else to nothing.
pub leaf_leads : (C : List Mark → List ℕ → Type 0) (nodes : List (List Mark)) (l : List ℕ) (shape : Option Shape) (ns : List ℕ) (after : TreePhase)
    → 0 < length nodes → IsRead l shape ns → (shape ≡ Some S.Branch → ⊥) → LeavesBy C l nodes after → TreeLeads C (in_trees nodes) after l
leaf_leads C nodes l shape ns after some r other by = λ ls. (λ t. take_back nodes ls some by t, λ t. go nodes ls some by (trees_take C nodes (l ∷ ls) t))
  where
    no_branch : (j : ℕ) → Spells S.Branch (j ∷ []) l → ⊥
    no_branch j e = other (read_as l shape ns S.Branch (j ∷ []) r e).0

    take_back : (nodes : List (List Mark)) (ls : List (List ℕ)) → 0 < length nodes → LeavesBy C l nodes after → TreeWaits C after ls → TreeWaits C (in_trees nodes) (l ∷ ls)
    take_back [] ls some by t = absurd (omega arith)
    take_back (node ∷ nodes) ls some (inl b) t = (leaf l, ls, refl, b.0, subst (λ z. TreeWaits C z ls) b.1 t)
    take_back (node ∷ nodes) ls some (inr b) t = absurd (subst (λ z. TreeWaits C z ls) b.1 t)

    go : (nodes : List (List Mark)) (ls : List (List ℕ)) → 0 < length nodes → LeavesBy C l nodes after → TreesTake C nodes (l ∷ ls) → TreeWaits C after ls
    go [] ls some by t = absurd (omega arith)
    go (node ∷ nodes) ls some by (inl h) = absurd (no_branch h.0 h.1)
    go (node ∷ nodes) ls some (inl b) (inr h) = subst (λ z. TreeWaits C z ls) (sym b.1) (take_trees C nodes ls h.1)
    go (node ∷ nodes) ls some (inr b) (inr h) = absurd (b.0 h.0)

-- ---- Nothing more.

-- Nothing leads on from the end, nor from what was refused.
pub none_leads : (C : List Mark → List ℕ → Type 0) (before : TreePhase) (l : List ℕ) → before ≡ at_end ⊎ before ≡ refused → TreeLeads C before refused l
none_leads C before l (inl e) = rw e (λ ls. (λ t. absurd t, λ t. cc))
none_leads C before l (inr e) = rw e (λ ls. (λ t. absurd t, λ t. absurd t))

-- Everything has come exactly at the end.
pub tree_ends : (C : List Mark → List ℕ → Type 0) (phase : TreePhase) → (phase ≡ at_end) ↔ TreeWaits C phase []
tree_ends C phase = (λ e. subst (λ z. TreeWaits C z []) (sym e) refl, λ t. here phase t)
  where
    here : (phase : TreePhase) → TreeWaits C phase [] → phase ≡ at_end
    here (in_trees []) t = absurd (trees_take C [] [] t)
    here (in_trees (node ∷ nodes)) t = absurd (trees_take C (node ∷ nodes) [] t)
    here at_end t = refl
    here refused t = absurd t

-- ---- A list of one number.

-- A list of one number is told by the number.
pub single : (ns : List ℕ) (i : ℕ) → length ns ≡ 1 → slice_get ns 0 ≡ Some i → ns ≡ i ∷ []
single [] i l e = absurd (omega arith)
single (n ∷ []) i l e = let h = get_or_from_slice_get (n ∷ []) 0 i 0 e in ap (λ z. z ∷ []) h
single (n ∷ m ∷ ns) i l e = absurd (omega arith)

-- What isn't done has a node.
pub not_done : (b : Bool) (n : ℕ) → b ≡ false → (n ≡ 0 → IsTrue b) → 0 < n
not_done b zero e h = let t : IsTrue b = h refl in cc
not_done b (suc n) e h = omega arith

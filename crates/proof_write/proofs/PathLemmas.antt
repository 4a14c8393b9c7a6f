-- The path along an assortment: its nodes, and its tree.
use Rattle.std.proofs.Common.{◌≡◌, ℕ, zero, suc, ◌+◌, ◌<◌, ◌≤◌, Bool, true, false, cond, ◌||◌, List, [], ◌∷◌, length, refl, sym, ap, arith, not, subst, inl, inr, ◌∙◌, ◌⊎◌}
use Rattle.std.specs.Prelude.{◌≢◌, slice_set, nat_lt}
use Rattle.std.proofs.lemmas.Bool.{cases_lt}
use Rattle.std.proofs.lemmas.Bool.Decides.{nat_tests}
use Rattle.std.proofs.lemmas.List.{set-set}
use Rattle.offer_model.specs.declared.node.Mark.{Mark}
use Rattle.offer_model.specs.declared.node.Mark.TheVariants.{In, Out, Open}
use Rattle.offer_model.specs.Assortments.{IsBefore, offers}
use Rattle.offer_model.specs.Nodes.{mark_at, open_node, Completes, fill_of}
use Rattle.offer_model.proofs.TieLemmas.{IsBefore-asym}
use Rattle.proof_lines.specs.Lines.{LineData, line_text}
use Rattle.proof_lines.specs.Trees.{Tree}
use Rattle.proof_lines.specs.Trees.Tree.{branch}
use Rattle.proof_lines.specs.Closing.{ComesAfter}
use Rattle.proof_lines.specs.Writing.{offered_end}
use Rattle.proof_tree.specs.LineLeaves.{text_tree}
use Rattle.proof_tree.specs.Rules.{IsRuleTree}
use Rattle.proof_write.specs.Leaves.{mark_of, path_node, side_node, leaf_at}
use Rattle.proof_write.specs.PathRules.{IsTurn, PathLeaf, PathBranch}
use Rattle.proof_write.proofs.ClosingLemmas.{IsBeside, leaf_of}

-- ---- Nodes.

pub node-length : (x : List Bool) (k : ℕ) → length (path_node x k) ≡ length x
node-length [] k = refl
node-length (b ∷ x) zero = let e = node-length x zero in omega arith
node-length (b ∷ x) (suc k) = let e = node-length x k in omega arith

pub node-open : (x : List Bool) → open_node (length x) ≡ path_node x 0
node-open [] = refl
node-open (b ∷ x) = ap (λ t. Open ∷ t) (node-open x)

pub node-mark : (x : List Bool) (k : ℕ) → k < length x → mark_at (path_node x k) k ≡ Open
node-mark [] k l = absurd (omega arith)
node-mark (b ∷ x) zero l = refl
node-mark (b ∷ x) (suc k) l = node-mark x k (omega arith)

pub node-next : (x : List Bool) (k : ℕ) → k < length x → slice_set (path_node x k) k (mark_of (offers x k)) ≡ path_node x (suc k)
node-next [] k l = absurd (omega arith)
node-next (b ∷ x) zero l = refl
node-next (b ∷ x) (suc k) l = ap (λ t. mark_of b ∷ t) (node-next x k (omega arith))

pub side-next : (x : List Bool) (k : ℕ) → k < length x → slice_set (side_node x k) k (mark_of (offers x k)) ≡ path_node x (suc k)
side-next x k l = set-set (path_node x k) k (mark_of (not (offers x k))) (mark_of (offers x k)) ∙ node-next x k l

-- ---- The order of x and the completions of the nodes beside the path.

-- Where x doesn't offer k, x is before the completions that do.
pub inside-after : (x : List Bool) (k : ℕ) → k < length x → offers x k ≡ false → ComesAfter (slice_set (path_node x k) k In) x
inside-after [] k l e h = absurd (omega arith)
inside-after (true ∷ x) zero l e h = cc
inside-after (false ∷ x) zero l e h = h
inside-after (true ∷ x) (suc k) l e h = inside-after x k (omega arith) e h
inside-after (false ∷ x) (suc k) l e h = inside-after x k (omega arith) e h

-- Where x offers k, the completions that don't are before x.
pub outside-before : (x : List Bool) (k : ℕ) → k < length x → offers x k ≡ true → (y : List Bool) → Completes (slice_set (path_node x k) k Out) y → IsBefore y x
outside-before [] k l e y c = absurd (omega arith)
outside-before (b ∷ x) zero l e [] c = absurd c
outside-before (b ∷ x) (suc k) l e [] c = absurd c
outside-before (true ∷ x) zero l e (false ∷ y) c = tt
outside-before (true ∷ x) zero l e (true ∷ y) c = let d : true ≡ false = c.0 in cc
outside-before (false ∷ x) zero l e (b ∷ y) c = cc
outside-before (true ∷ x) (suc k) l e (true ∷ y) c = outside-before x k (omega arith) e y c.1
outside-before (true ∷ x) (suc k) l e (false ∷ y) c = let d : false ≡ true = c.0 in cc
outside-before (false ∷ x) (suc k) l e (false ∷ y) c = outside-before x k (omega arith) e y c.1
outside-before (false ∷ x) (suc k) l e (true ∷ y) c = let d : true ≡ false = c.0 in cc

-- So each node beside the path is beside x.
pub side-beside : (x : List Bool) (k : ℕ) → k < length x → IsBeside x (side_node x k)
side-beside x k l = by_offer (offers x k) refl
  where
    by_offer : (b : Bool) → offers x k ≡ b → IsBeside x (slice_set (path_node x k) k (mark_of (not b)))
    by_offer true o = inr (outside-before x k l o)
    by_offer false o = inl (inside-after x k l o)

-- Nothing is offered past the last that is offered.
pub end-past : (x : List Bool) (i : ℕ) → offered_end x ≤ i → offers x i ≡ false
end-past [] i l = refl
end-past (true ∷ x) zero l = absurd (omega arith)
end-past (true ∷ x) (suc i) l = end-past x i (omega arith)
end-past (false ∷ x) zero l = refl
end-past (false ∷ x) (suc i) l = end-past x i (by_rest (offered_end x) l)
  where
    by_rest : (e : ℕ) → cond (nat_lt 0 e) (suc e) 0 ≤ suc i → e ≤ i
    by_rest e h = grind (arith, nat_tests)

pub end-inside : (x : List Bool) → offered_end x ≤ length x
end-inside [] = omega arith
end-inside (b ∷ x) =
    let before = end-inside x in
    elim (b || nat_lt 0 (offered_end x)) as (λ v. cond v (suc (offered_end x)) 0 ≤ suc (length x)) [ true ↦ omega arith | false ↦ omega arith ]

-- The end is right after a product that is offered, with none after it.
pub end-is : (x : List Bool) (e : ℕ) → ((i : ℕ) → e ≤ i → offers x i ≡ false) → ((i : ℕ) → e ≡ i + 1 → offers x i ≡ true) → offered_end x ≡ e
end-is [] zero past last = refl
end-is [] (suc e) past last = let h = last e (omega arith) in cc
end-is (b ∷ x) zero past last =
    let none = end-is x zero (λ i l. past (suc i) (omega arith)) (λ i l. absurd (omega arith)) in
    let first = past 0 (omega arith) in
    rw (none, first) refl
end-is (b ∷ x) (suc zero) past last =
    let none = end-is x zero (λ i l. past (suc i) (omega arith)) (λ i l. absurd (omega arith)) in
    let first = last 0 (omega arith) in
    rw (none, first) refl
end-is (b ∷ x) (suc (suc e)) past last =
    let rest = end-is x (suc e) (λ i l. past (suc i) (omega arith)) (λ i l. last (suc i) (omega arith)) in
    further b (offered_end x) rest
  where
    further : (b : Bool) (r : ℕ) → r ≡ suc e → cond (b || nat_lt 0 r) (suc r) 0 ≡ suc (suc e)
    further true r h = ap suc h
    further false r h = grind (arith, nat_tests)

-- The node at the end is filled by x.
pub fill-end : (x : List Bool) (e : ℕ) → ((i : ℕ) → e ≤ i → offers x i ≡ false) → fill_of (path_node x e) ≡ x
fill-end [] e past = refl
fill-end (b ∷ x) zero past = let first : b ≡ false = past 0 (omega arith) in
    rw first (ap (λ t. false ∷ t) (fill-end x zero (λ i l. past (suc i) (omega arith))))
fill-end (true ∷ x) (suc e) past = ap (λ t. true ∷ t) (fill-end x e (λ i l. past (suc i) (omega arith)))
fill-end (false ∷ x) (suc e) past = ap (λ t. false ∷ t) (fill-end x e (λ i l. past (suc i) (omega arith)))

not_before_itself : (x y : List Bool) → y ≡ x → IsBefore y x → ⊥
not_before_itself x y e h = let same = subst (λ t. IsBefore t x) e h in IsBefore-asym x x same same

-- The path's own node is.
pub last-beside : (x : List Bool) → IsBeside x (path_node x (offered_end x))
last-beside x = inl (not_before_itself x (fill_of (path_node x (offered_end x))) (fill-end x (offered_end x) (λ i l. end-past x i l)))

-- ---- The tree.

-- So many branches, on products from k on.
abbrev pub path_tree : List Bool → List LineData → ℕ → ℕ → Tree
path_tree x leaves zero k = leaf_of (leaf_at leaves k)
path_tree x leaves (suc more) k = branch k (cond (offers x k) (path_tree x leaves more (suc k)) (leaf_of (leaf_at leaves k)))
    (cond (offers x k) (leaf_of (leaf_at leaves k)) (path_tree x leaves more (suc k)))

-- Nothing comes right before the first.
pub no_end : (x : List Bool) (i : ℕ) → 0 ≡ i + 1 → offers x i ≡ true
no_end x i e = absurd (omega arith)

-- ---- The turns of its nodes.

-- A node has one turn.
pub turn_one : (x : List Bool) (node : List Mark) (end j k : ℕ) → IsTurn x node end j → IsTurn x node end k → j ≡ k
turn_one x node end j k h g = by_order (cases_lt j k) (cases_lt k j)
  where
    by_order : (j < k) ⊎ (k ≤ j) → (k < j) ⊎ (j ≤ k) → j ≡ k
    by_order (inl l) b = absurd (h.off (let most = g.inside in omega arith) (g.along j l))
    by_order (inr l) (inl m) = absurd (g.off (let most = h.inside in omega arith) (h.along k m))
    by_order (inr l) (inr m) = omega arith

node-along : (x : List Bool) (k i : ℕ) → i < k → k ≤ length x → mark_at (path_node x k) i ≡ mark_of (offers x i)
node-along [] k i l m = absurd (omega arith)
node-along (b ∷ x) zero i l m = absurd (omega arith)
node-along (b ∷ x) (suc k) zero l m = refl
node-along (b ∷ x) (suc k) (suc i) l m = node-along x k i (omega arith) (omega arith)

side-along : (x : List Bool) (k i : ℕ) (m : Mark) → i < k → k < length x → mark_at (slice_set (path_node x k) k m) i ≡ mark_of (offers x i)
side-along [] k i m l n = absurd (omega arith)
side-along (b ∷ x) zero i m l n = absurd (omega arith)
side-along (b ∷ x) (suc k) zero m l n = refl
side-along (b ∷ x) (suc k) (suc i) m l n = side-along x k i m (omega arith) (omega arith)

side-mark : (x : List Bool) (k : ℕ) (m : Mark) → k < length x → mark_at (slice_set (path_node x k) k m) k ≡ m
side-mark [] k m l = absurd (omega arith)
side-mark (b ∷ x) zero m l = refl
side-mark (b ∷ x) (suc k) m l = side-mark x k m (omega arith)

no_open : (b : Bool) → mark_of b ≢ Open
no_open true e = cc
no_open false e = cc

other_mark : (b : Bool) → mark_of (not b) ≢ mark_of b
other_mark true e = cc
other_mark false e = cc

-- A node on the path turns where it is Open first.
pub turn-along : (x : List Bool) (end k : ℕ) → k ≤ end → end ≤ length x → IsTurn x (path_node x k) end k
turn-along x end k l m = record {
  inside = l;
  along = λ i b. node-along x k i b (omega arith);
  off = λ b e. no_open (offers x k) (sym e ∙ node-mark x k (omega arith));
}

-- A node beside it turns at its own product.
pub turn-beside : (x : List Bool) (end k : ℕ) → k < end → end ≤ length x → IsTurn x (side_node x k) end k
turn-beside x end k l m = record {
  inside = omega arith;
  along = λ i b. side-along x k i (mark_of (not (offers x k))) b (omega arith);
  off = λ b e. other_mark (offers x k) (sym (side-mark x k (mark_of (not (offers x k))) (omega arith)) ∙ e);
}

-- ---- The tree is the rule's.

leaf-beside : (x : List Bool) (leaves : List LineData) (k : ℕ) → k < offered_end x
    → PathLeaf (record { best = x; leaves = leaves }) (side_node x k) (line_text (leaf_at leaves k).shape (leaf_at leaves k).numbers)
leaf-beside x leaves k l =
    let inside = end-inside x in
    (k, turn-beside x (offered_end x) k l inside, (λ b e. no_open (not (offers x k)) (sym (side-mark x k (mark_of (not (offers x k))) (omega arith)) ∙ e)), refl)

-- The rule fixes the tree of so many branches from k on, at the node on the path there.
pub path_is_rule : (x : List Bool) (leaves : List LineData) (more k : ℕ) → k + more ≡ offered_end x
    → IsRuleTree (PathLeaf (record { best = x; leaves = leaves })) (PathBranch (record { best = x; leaves = leaves })) (path_node x k) (text_tree (path_tree x leaves more k))
path_is_rule x leaves zero k e =
    let inside = end-inside x in
    (k, turn-along x (offered_end x) k (omega arith) inside, (λ b. absurd (omega arith)), refl)
path_is_rule x leaves (suc more) k e =
    let inside = end-inside x in
    let turn = turn-along x (offered_end x) k (omega arith) inside in
    let sides = by_offer (offers x k) (node-next x k (omega arith)) (path_is_rule x leaves more (suc k) (omega arith)) (leaf-beside x leaves k (omega arith)) in
    (none turn (node-mark x k (omega arith)), turn, sides.0, sides.1)
  where
    L : List Mark → List ℕ → Type 0
    L node l = PathLeaf (record { best = x; leaves = leaves }) node l

    B : List Mark → ℕ → Type 0
    B node i = PathBranch (record { best = x; leaves = leaves }) node i

    here : Tree
    here = leaf_of (leaf_at leaves k)

    inner : Tree
    inner = path_tree x leaves more (suc k)

    none : IsTurn x (path_node x k) (offered_end x) k → mark_at (path_node x k) k ≡ Open → (l : List ℕ) → L (path_node x k) l → ⊥
    none turn o l h =
        let same = turn_one x (path_node x k) (offered_end x) h.0 k h.1 turn in
        h.2 (omega arith) (subst (λ z. mark_at (path_node x k) z ≡ Open) (sym same) o)

    by_offer : (b : Bool) → slice_set (path_node x k) k (mark_of b) ≡ path_node x (suc k) → IsRuleTree L B (path_node x (suc k)) (text_tree inner)
        → L (slice_set (path_node x k) k (mark_of (not b))) (line_text (leaf_at leaves k).shape (leaf_at leaves k).numbers)
        → IsRuleTree L B (slice_set (path_node x k) k In) (text_tree (cond b inner here)) × IsRuleTree L B (slice_set (path_node x k) k Out) (text_tree (cond b here inner))
    by_offer true next deep own = (subst (λ n. IsRuleTree L B n (text_tree inner)) (sym next) deep, own)
    by_offer false next deep own = (own, subst (λ n. IsRuleTree L B n (text_tree inner)) (sym next) deep)

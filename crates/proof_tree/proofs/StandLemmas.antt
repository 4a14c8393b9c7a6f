-- Where nodes stand in the tree of a rule.
use Rattle.std.proofs.Common.{◌≡◌, ◌∙◌, ◌⊎◌, inl, inr, ℕ, zero, suc, ◌+◌, ◌<◌, List, [], ◌∷◌, length, length-set, drop, refl, ap, arith, subst}
use Rattle.std.specs.Prelude.{slice_set}
use Rattle.offer_model.specs.declared.node.Mark.{Mark}
use Rattle.offer_model.specs.declared.node.Mark.TheVariants.{In, Out, Open}
use Rattle.offer_model.specs.Nodes.{mark_at, open_node, opens, one_if_open}
use Rattle.offer_model.proofs.NodeLemmas.{length-open_node, open_inside}
use Rattle.proof_tree.specs.Paths.{first_of, branched}
use Rattle.proof_tree.specs.Rules.{StandsAt, AreOfTree}

-- ---- How many products are Open.

-- A mark that is set changes their number by what it was and what it is.
pub opens-set : (node : List Mark) (i : ℕ) (m : Mark) → i < length node → opens (slice_set node i m) + one_if_open (mark_at node i) ≡ opens node + one_if_open m
opens-set [] i m l = absurd (omega arith)
opens-set (x ∷ node) zero m l = omega arith
opens-set (x ∷ node) (suc i) m l = let rest = opens-set node i m (omega arith) in omega arith

-- In a node of n open products all are.
pub opens-open_node : (n : ℕ) → opens (open_node n) ≡ n
opens-open_node zero = refl
opens-open_node (suc n) = let rest = opens-open_node n in omega arith

-- ---- A node of the tree.

one_less : (above node : List Mark) (i d : ℕ) (m : Mark) → mark_at above i ≡ Open → one_if_open m ≡ 0 → node ≡ slice_set above i m → d + opens above ≡ length above
    → (suc d + opens node ≡ length node) × (length node ≡ length above)
one_less above node i d m o shut is rest =
    let change = opens-set above i m (open_inside above i o) in
    let one : one_if_open (mark_at above i) ≡ 1 = ap one_if_open o in
    let few : opens node ≡ opens (slice_set above i m) = ap opens is in
    let same : length node ≡ length above = ap length is ∙ length-set above i m in
    (omega arith, same)

-- It has n products, and settles as many as it is deep.
pub stands_settled : (L : List Mark → List ℕ → Type 0) (B : List Mark → ℕ → Type 0) (n d : ℕ) (node : List Mark) → StandsAt L B n d node
    → (d + opens node ≡ length node) × (length node ≡ n)
stands_settled L B n zero node s = rw s (let all = opens-open_node n in let same = length-open_node n in (omega arith, same))
stands_settled L B n (suc d) node s = side (stands_settled L B n d s.0 s.2) s.6
  where
    side : (d + opens s.0 ≡ length s.0) × (length s.0 ≡ n) → (node ≡ slice_set s.0 s.1 In) ⊎ (node ≡ slice_set s.0 s.1 Out)
        → (suc d + opens node ≡ length node) × (length node ≡ n)
    side rest (inl is) = let less = one_less s.0 node s.1 d In s.5 refl is rest.0 in (less.0, less.1 ∙ rest.1)
    side rest (inr is) = let less = one_less s.0 node s.1 d Out s.5 refl is rest.0 in (less.0, less.1 ∙ rest.1)

-- It stands as deep as it settles products.
pub stands_here : (L : List Mark → List ℕ → Type 0) (B : List Mark → ℕ → Type 0) (n depth : ℕ) (nodes : List (List Mark)) → 0 < length nodes → AreOfTree L B n nodes
    → depth + opens (first_of nodes) ≡ length (first_of nodes) → StandsAt L B n depth (first_of nodes)
stands_here L B n depth [] some own deep = absurd (omega arith)
stands_here L B n depth (node ∷ nodes) some own deep =
    let settles = (stands_settled L B n own.0.0 node own.0.1).0 in
    let same : own.0.0 ≡ depth = omega arith in
    subst (λ d. StandsAt L B n d node) same own.0.1

-- ---- The nodes that are still to come.

-- The node of which nothing is settled is the first of the tree.
pub root_stands : (L : List Mark → List ℕ → Type 0) (B : List Mark → ℕ → Type 0) (n : ℕ) → AreOfTree L B n (open_node n ∷ [])
root_stands L B n = ((0, refl), tt)

-- So are those that follow the first.
pub others_stand : (L : List Mark → List ℕ → Type 0) (B : List Mark → ℕ → Type 0) (n : ℕ) (nodes : List (List Mark)) → AreOfTree L B n nodes → AreOfTree L B n (drop 1 nodes)
others_stand L B n [] own = own
others_stand L B n (node ∷ nodes) own = own.1

-- And the sides of its branch, where it has no leaf.
pub sides_stand : (L : List Mark → List ℕ → Type 0) (B : List Mark → ℕ → Type 0) (n i : ℕ) (nodes : List (List Mark)) → 0 < length nodes → AreOfTree L B n nodes
    → ((l : List ℕ) → L (first_of nodes) l → ⊥) → B (first_of nodes) i → mark_at (first_of nodes) i ≡ Open → AreOfTree L B n (branched i nodes)
sides_stand L B n i [] some own none by o = absurd (omega arith)
sides_stand L B n i (node ∷ nodes) some own none by o =
    ((suc own.0.0, (node, i, own.0.1, none, by, o, inl refl)), ((suc own.0.0, (node, i, own.0.1, none, by, o, inr refl)), own.1))

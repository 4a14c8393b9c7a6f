-- What the rule of a path says at a node.
use Rattle.std.proofs.Common.{◌≡◌, ◌∙◌, ℕ, zero, suc, ◌+◌, ◌<◌, ◌≤◌, ◌⊎◌, ◌↔◌, Bool, true, false, List, [], ◌∷◌, ◌++◌, length, get_or, refl, sym, ap, arith, subst, inl, inr}
use Rattle.std.specs.Prelude.{◌≢◌, slice_set}
use Rattle.std.proofs.lemmas.List.{get_or-set_same, get_or-set_other}
use Rattle.std.proofs.Math.Nat.{eq-or-lt_of_le}
use Rattle.offer_model.specs.declared.node.Mark.{Mark}
use Rattle.offer_model.specs.declared.node.Mark.TheVariants.{In, Out, Open}
use Rattle.offer_model.specs.Assortments.{offers}
use Rattle.offer_model.specs.Nodes.{mark_at}
use Rattle.offer_model.proofs.NodeLemmas.{mark_at-open_node}
use Rattle.proof_lines.specs.declared.line.Line.{Line}
use Rattle.proof_lines.specs.Lines.{LineData, line_text}
use Rattle.proof_lines.specs.Writing.{offered_end}
use Rattle.proof_tree.specs.Rules.{SaysLeaf, StandsAt}
use Rattle.proof_tree.proofs.StandLemmas.{stands_settled}
use Rattle.proof_tree.specs.Pens.{line_data, lines_data}
use Rattle.proof_write.specs.Leaves.{mark_of, leaf_at, IsPrintable}
use Rattle.proof_write.specs.PathRules.{IsTurn, IsNear, PathData, PathBranch, PathLeaf}
use Rattle.proof_write.proofs.LeafLemmas.{data_at}
use Rattle.proof_write.proofs.PathLemmas.{turn_one, end-inside}

-- The turn, as contracts see the rule.
pub turn_seen : (r : PathData) (x : List Bool) (leaves : List LineData) (node : List Mark) (k : ℕ) → record { best = x; leaves = leaves } ≡ r
    → IsTurn x node (offered_end x) k → IsTurn r.best node (offered_end r.best) k
turn_seen r x leaves node k is turn = subst (λ (z : PathData). IsTurn z.best node (offered_end z.best) k) is turn

-- A leaf can be printed.
pub leaf_printable : (ls : List Line) (k : ℕ) (l : Line) → ((i : ℕ) → i < length ls → IsPrintable (leaf_at (lines_data ls) i)) → k < length ls → l ≡ get_or ls k l
    → IsPrintable (line_data l)
leaf_printable ls k l all b e = subst IsPrintable (data_at ls k l b e) (all k b)

abbrev text_at : PathData → ℕ → List ℕ
text_at r k = line_text (leaf_at r.leaves k).shape (leaf_at r.leaves k).numbers

-- The leaf of its turn is the node's one leaf, where the turn isn't at an Open product.
pub says_leaf : (r : PathData) (node : List Mark) (k : ℕ) (l : LineData) (text : List ℕ) → IsTurn r.best node (offered_end r.best) k
    → (k < offered_end r.best → mark_at node k ≢ Open) → leaf_at r.leaves k ≡ l → text ≡ line_text l.shape l.numbers ++ 10 ∷ [] → SaysLeaf (PathLeaf r node) text true
says_leaf r node k l text turn closed is own =
    (text_at r k, own ∙ ap (λ (z : LineData). line_text z.shape z.numbers ++ 10 ∷ []) (sym is), (k, turn, closed, refl), λ m h. h.3 ∙ ap (text_at r) (turn_one r.best node (offered_end r.best) h.0 k h.1 turn))

-- Where it is, there is none.
pub says_no_leaf : (r : PathData) (node : List Mark) (k : ℕ) (text : List ℕ) → IsTurn r.best node (offered_end r.best) k → k < offered_end r.best → mark_at node k ≡ Open
    → text ≡ [] → SaysLeaf (PathLeaf r node) text false
says_no_leaf r node k text turn below o is = (is, λ m h. none m h)
  where
    none : (m : List ℕ) → PathLeaf r node m → ⊥
    none m h =
        let same = turn_one r.best node (offered_end r.best) k h.0 turn h.1 in
        h.2 (subst (λ z. z < offered_end r.best) same below) (subst (λ z. mark_at node z ≡ Open) same o)

-- A node without a leaf turns at an Open product.
pub turns_open : (r : PathData) (node : List Mark) (k : ℕ) → IsTurn r.best node (offered_end r.best) k → ((l : List ℕ) → PathLeaf r node l → ⊥) → mark_at node k ≡ Open
turns_open r node k turn none = by_mark (mark_at node k) refl
  where
    by_mark : (m : Mark) → mark_at node k ≡ m → mark_at node k ≡ Open
    by_mark In e = absurd (none (text_at r k) (k, turn, (λ b o. let never : In ≡ Open = sym e ∙ o in cc), refl))
    by_mark Out e = absurd (none (text_at r k) (k, turn, (λ b o. let never : Out ≡ Open = sym e ∙ o in cc), refl))
    by_mark Open e = e

-- Its turn is what is branched on.
pub branches_at : (r : PathData) (node : List Mark) (k : ℕ) → IsTurn r.best node (offered_end r.best) k → (i : ℕ) → PathBranch r node i ↔ (i ≡ k)
branches_at r node k turn i =
    (λ h. turn_one r.best node (offered_end r.best) i k h turn, λ e. subst (λ z. IsTurn r.best node (offered_end r.best) z) (sym e) turn)

-- ---- Where the rule's nodes turn.

no_mark : (b : Bool) → mark_of b ≢ Open
no_mark true e = cc
no_mark false e = cc

-- A node whose last settled product strays turns there.
pub turns_back : (x : List Bool) (node : List Mark) (end d : ℕ) → IsNear x node end (suc d) → mark_at node d ≢ mark_of (offers x d) → IsTurn x node end d
turns_back x node end d h strays = record {
  inside = let most = h.inside in omega arith;
  along = λ i l. h.along i (omega arith);
  off = λ l. strays;
}

-- Another turns at the next one.
pub turns_on : (x : List Bool) (node : List Mark) (end d : ℕ) → IsNear x node end d → ((i : ℕ) → i + 1 ≡ d → mark_at node i ≡ mark_of (offers x i)) → IsTurn x node end d
turns_on x node end d h last = record {
  inside = h.inside;
  along = λ i l. along i (eq-or-lt_of_le l);
  off = λ l e. no_mark (offers x d) (sym e ∙ h.others d (omega arith) l);
}
  where
    along : (i : ℕ) → (suc i ≡ d) ⊎ (suc i < d) → mark_at node i ≡ mark_of (offers x i)
    along i (inl e) = last i (omega arith)
    along i (inr l) = h.along i (omega arith)

same_or_not : (m k : Mark) → (m ≡ k) ⊎ (m ≢ k)
same_or_not In In = inl refl
same_or_not Out Out = inl refl
same_or_not Open Open = inl refl
same_or_not In Out = inr (λ e. cc)
same_or_not In Open = inr (λ e. cc)
same_or_not Out In = inr (λ e. cc)
same_or_not Out Open = inr (λ e. cc)
same_or_not Open In = inr (λ e. cc)
same_or_not Open Out = inr (λ e. cc)

-- A node that turns at an Open product turns at the next one.
turns_at_next : (x : List Bool) (node : List Mark) (end d i : ℕ) → IsNear x node end d → IsTurn x node end i → mark_at node i ≡ Open → i ≡ d
turns_at_next x node end zero i h turn o = turn_one x node end i zero turn (turns_on x node end zero h (λ j e. absurd (omega arith)))
turns_at_next x node end (suc d) i h turn o = by_mark (same_or_not (mark_at node d) (mark_of (offers x d)))
  where
    by_mark : (mark_at node d ≡ mark_of (offers x d)) ⊎ (mark_at node d ≢ mark_of (offers x d)) → i ≡ suc d
    by_mark (inl same) = turn_one x node end i (suc d) turn
        (turns_on x node end (suc d) h (λ j e. let is : j ≡ d = omega arith in subst (λ z. mark_at node z ≡ mark_of (offers x z)) (sym is) same))
    by_mark (inr strays) =
        let back = turn_one x node end i d turn (turns_back x node end d h strays) in
        absurd (h.settled d (omega arith) (subst (λ z. mark_at node z ≡ Open) back o))

-- A side of its branch is near too.
near_side : (x : List Bool) (above : List Mark) (end d : ℕ) (m : Mark) → end ≤ length above → d < end → m ≢ Open → IsNear x above end d
    → IsTurn x above end d → IsNear x (slice_set above d m) end (suc d)
near_side x above end d m long below shut h turn = record {
  inside = below;
  along = λ i l. kept i (λ e. omega arith) ∙ turn.along i (omega arith);
  settled = λ i l. by_place i (eq-or-lt_of_le l);
  others = λ i l b. kept i (λ e. omega arith) ∙ h.others i (omega arith) b;
}
  where
    kept : (i : ℕ) → i ≢ d → mark_at (slice_set above d m) i ≡ mark_at above i
    kept i other = get_or-set_other above d i m Out other

    by_place : (i : ℕ) → (suc i ≡ suc d) ⊎ (suc i < suc d) → mark_at (slice_set above d m) i ≢ Open
    by_place i (inl e) o =
        let is : i ≡ d = omega arith in
        shut (sym (get_or-set_same above d m Out (omega arith)) ∙ subst (λ z. mark_at (slice_set above d m) z ≡ Open) is o)
    by_place i (inr l) o = h.settled i (omega arith) (sym (kept i (λ e. omega arith)) ∙ o)

-- Below a node that is near and has no leaf, so is each side of its branch.
below_near : (r : PathData) (d i : ℕ) (above node : List Mark) → offered_end r.best ≤ length above → IsNear r.best above (offered_end r.best) d
    → ((l : List ℕ) → PathLeaf r above l → ⊥) → PathBranch r above i → mark_at above i ≡ Open
    → (node ≡ slice_set above i In) ⊎ (node ≡ slice_set above i Out) → IsNear r.best node (offered_end r.best) (suc d)
below_near r d i above node long near none by o sides = side sides
  where
    here : i ≡ d
    here = turns_at_next r.best above (offered_end r.best) d i near by o

    turn : IsTurn r.best above (offered_end r.best) d
    turn = subst (λ z. IsTurn r.best above (offered_end r.best) z) here by

    below : d < offered_end r.best
    below = by_end (eq-or-lt_of_le turn.inside)
      where
        by_end : (d ≡ offered_end r.best) ⊎ (d < offered_end r.best) → d < offered_end r.best
        by_end (inr l) = l
        by_end (inl e) = absurd (none (text_at r d) (d, turn, (λ b c. omega arith), refl))

    side : (node ≡ slice_set above i In) ⊎ (node ≡ slice_set above i Out) → IsNear r.best node (offered_end r.best) (suc d)
    side (inl e) = rw (e, here) (near_side r.best above (offered_end r.best) d In long below (λ c. cc) near turn)
    side (inr e) = rw (e, here) (near_side r.best above (offered_end r.best) d Out long below (λ c. cc) near turn)

-- Each node of the rule's tree is near.
pub stands_near : (r : PathData) (n d : ℕ) (node : List Mark) → n ≡ length r.best → StandsAt (PathLeaf r) (PathBranch r) n d node → IsNear r.best node (offered_end r.best) d
stands_near r n zero node is s = record {
  inside = omega arith;
  along = λ i l. absurd (omega arith);
  settled = λ i l. absurd (omega arith);
  others = λ i l b. rw s (mark_at-open_node n i (let inside = end-inside r.best in omega arith));
}
stands_near r n (suc d) node is s =
    let inside = end-inside r.best in
    let same = (stands_settled (PathLeaf r) (PathBranch r) n d s.0 s.2).1 in
    below_near r d s.1 s.0 node (omega arith) (stands_near r n d s.0 is s.2) s.3 s.4 s.5 s.6

-- As the rule itself sees it.
pub stands_near_seen : (r : PathData) (x : List Bool) (leaves : List LineData) (d : ℕ) (node : List Mark) → record { best = x; leaves = leaves } ≡ r
    → StandsAt (PathLeaf r) (PathBranch r) (length r.best) d node → IsNear x node (offered_end x) d
stands_near_seen r x leaves d node is s = subst (λ (z : PathData). IsNear z.best node (offered_end z.best) d) (sym is) (stands_near r (length r.best) d node refl s)

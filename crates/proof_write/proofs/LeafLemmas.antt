-- Leaves that are computed one after another, along the path.
use Rattle.std.proofs.Common.{◌≡◌, ◌∙◌, ℕ, zero, suc, ◌+◌, ◌<◌, ◌⊎◌, Bool, not, List, [], ◌∷◌, ◌++◌, length, get_or, refl, sym, ap, arith, subst, inl, inr}
use Rattle.std.specs.Prelude.{slice_set}
use Rattle.std.proofs.lemmas.List.{get_or_push, get_or_append_left, length_push}
use Rattle.std.proofs.Math.Nat.{eq-or-lt_of_le}
use Rattle.offer_model.specs.declared.node.Mark.{Mark}
use Rattle.offer_model.specs.Assortments.{offers}
use Rattle.offer_model.specs.Problems.{ProblemData}
use Rattle.offer_model.specs.Prices.{Prices}
use Rattle.proof_lines.specs.declared.line.Line.{Line}
use Rattle.proof_lines.specs.declared.line.Shape.TheVariants as S
use Rattle.proof_lines.specs.Lines.{LineData, line}
use Rattle.proof_tree.specs.Pens.{line_data, lines_data}
use Rattle.proof_write.specs.Leaves.{mark_of, path_node, side_node, leaf_at, Says, AreLeaves}
use Rattle.proof_write.proofs.PathLemmas.{side-next}

-- ---- The node, as it is marked.

pub marked_beside : (x : List Bool) (node : List Mark) (k : ℕ) (mark : Mark) (b : Bool) → node ≡ path_node x k → mark ≡ mark_of (not b) → b ≡ offers x k
    → slice_set node k mark ≡ side_node x k
marked_beside x node k mark b n m o = rw (n, m, o) refl

pub marked_along : (x : List Bool) (node : List Mark) (k : ℕ) (mark : Mark) (b : Bool) → k < length x → node ≡ side_node x k → mark ≡ mark_of b → b ≡ offers x k
    → slice_set node k mark ≡ path_node x (k + 1)
marked_along x node k mark b l n m o =
    let one : suc k ≡ k + 1 = omega arith in
    rw (n, m, o) (side-next x k l ∙ ap (λ t. path_node x t) one)

-- ---- The leaves.

-- What closes the nodes beside the path at the products below k.
abbrev pub AreSides : ProblemData → Prices → List Bool → ℕ → List LineData → Type 0
AreSides p at x end leaves = (k : ℕ) → k < end → Says p at (side_node x k) (leaf_at leaves k)

kept : (p : ProblemData) (at : Prices) (x : List Bool) (n : ℕ) (leaves : List LineData) (closing : LineData) → length leaves ≡ n → AreSides p at x n leaves
    → AreSides p at x n (leaves ++ closing ∷ [])
kept p at x n leaves closing each sides k l =
    subst (λ c. Says p at (side_node x k) c) (sym (get_or_append_left leaves (closing ∷ []) (line S.Clash []) k (omega arith))) (sides k l)

pub sides_more : (p : ProblemData) (at : Prices) (x : List Bool) (n : ℕ) (leaves after : List LineData) (node : List Mark) (closing : LineData)
    → after ≡ leaves ++ closing ∷ [] → length leaves ≡ n → AreSides p at x n leaves → node ≡ side_node x n → Says p at node closing
    → AreSides p at x (n + 1) after
sides_more p at x n leaves after node closing is each sides here own k l =
    subst (λ ls. Says p at (side_node x k) (leaf_at ls k)) (sym is) (by_place (eq-or-lt_of_le (omega arith)))
  where
    by_place : (k ≡ n) ⊎ (k < n) → Says p at (side_node x k) (leaf_at (leaves ++ closing ∷ []) k)
    by_place (inr b) = kept p at x n leaves closing each sides k b
    by_place (inl e) = subst (λ c. Says p at (side_node x k) c) (sym (get_or_push leaves closing (line S.Clash []) k (each ∙ sym e)))
        (subst (λ m. Says p at m closing) (here ∙ ap (λ t. side_node x t) (sym e)) own)

pub leaves_all : (p : ProblemData) (at : Prices) (x : List Bool) (end n : ℕ) (leaves after : List LineData) (node : List Mark) (closing : LineData)
    → n ≡ end → after ≡ leaves ++ closing ∷ [] → length leaves ≡ n → AreSides p at x n leaves → node ≡ path_node x n → Says p at node closing
    → AreLeaves p at x end after
leaves_all p at x end n leaves after node closing e is each sides here own =
    subst (λ m. AreLeaves p at x m after) e (subst (λ ls. AreLeaves p at x n ls) (sym is) (record {
      each = length_push leaves closing ∙ ap (λ m. m + 1) each;
      sides = kept p at x n leaves closing each sides;
      last = subst (λ c. Says p at (path_node x n) c) (sym (get_or_push leaves closing (line S.Clash []) n each)) (subst (λ m. Says p at m closing) here own);
    }))

-- ---- Lines, and what the grammar sees of them.

-- One more line.
pub data_push : (ls : List Line) (l : Line) (m : LineData) → line_data l ≡ m → lines_data (ls ++ l ∷ []) ≡ lines_data ls ++ m ∷ []
data_push [] l m e = ap (λ z. z ∷ []) e
data_push (k ∷ ls) l m e = ap (λ z. line_data k ∷ z) (data_push ls l m e)

-- The line at a place.
pub data_at : (ls : List Line) (k : ℕ) (l : Line) → k < length ls → l ≡ get_or ls k l → leaf_at (lines_data ls) k ≡ line_data l
data_at [] k l b e = absurd (omega arith)
data_at (m ∷ ls) zero l b e = ap line_data (sym e)
data_at (m ∷ ls) (suc k) l b e = data_at ls k l (omega arith) e

pub data_length : (ls : List Line) → length (lines_data ls) ≡ length ls
data_length [] = refl
data_length (l ∷ ls) = let rest = data_length ls in omega arith

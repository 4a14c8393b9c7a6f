-- Nodes, mark by mark: their fills, their first Open product, and how many are Open.
use Rattle.std.proofs.Common.{◌≡◌, ◌≢◌, ℕ, zero, suc, ◌<◌, ◌≤◌, true, false, Some, None, List, [], ◌∷◌, length, refl, ap, arith, inl, inr}
use Rattle.std.specs.Prelude.{option_map}
use Rattle.std.proofs.lemmas.Bool.{cases_lt}
use Rattle.offer_model.specs.declared.node.Mark.{Mark}
use Rattle.offer_model.specs.declared.node.Mark.TheVariants.{In, Out, Open}
use Rattle.offer_model.specs.Assortments.{offers}
use Rattle.offer_model.specs.Nodes.{mark_at, open_node, is_in, fill_of, first_open, opens, IsSettledTo}
use Rattle.offer_model.specs.Branching.{IsFirstOpen}

-- ---- Lengths, and what is inside.

-- A node of n open products has n products.
pub length-open_node : (n : ℕ) → length (open_node n) ≡ n
length-open_node zero = refl
length-open_node (suc n) = ap suc (length-open_node n)

-- A node's fill is as long as the node.
pub length-fill_of : (node : List Mark) → length (fill_of node) ≡ length node
length-fill_of [] = refl
length-fill_of (m ∷ node) = ap suc (length-fill_of node)

-- A product that is Open is one of the node's.
pub open_inside : (node : List Mark) (i : ℕ) → mark_at node i ≡ Open → i < length node
open_inside [] i o = absurd cc
open_inside (m ∷ node) zero o = omega arith
open_inside (m ∷ node) (suc i) o = let rest = open_inside node i o in omega arith

-- In a node of n open products each of them is Open.
pub mark_at-open_node : (n i : ℕ) → i < n → mark_at (open_node n) i ≡ Open
mark_at-open_node zero i l = absurd (omega arith)
mark_at-open_node (suc n) zero l = refl
mark_at-open_node (suc n) (suc i) l = mark_at-open_node n i (omega arith)

-- There are no more Open products than products.
pub opens-le_length : (node : List Mark) → opens node ≤ length node
opens-le_length [] = omega arith
opens-le_length (In ∷ node) = let rest = opens-le_length node in omega arith
opens-le_length (Out ∷ node) = let rest = opens-le_length node in omega arith
opens-le_length (Open ∷ node) = let rest = opens-le_length node in omega arith

-- ---- The fill.

-- The fill offers what is In.
pub offers-fill_of : (node : List Mark) (i : ℕ) → offers (fill_of node) i ≡ is_in (mark_at node i)
offers-fill_of [] i = refl
offers-fill_of (m ∷ node) zero = refl
offers-fill_of (m ∷ node) (suc i) = offers-fill_of node i

-- It offers a product that is In.
pub offers-fill_of_in : (node : List Mark) (i : ℕ) → mark_at node i ≡ In → offers (fill_of node) i ≡ true
offers-fill_of_in node i e = rw (offers-fill_of node i, e) refl

-- And no other.
pub offers-fill_of_other : (node : List Mark) (i : ℕ) → mark_at node i ≢ In → offers (fill_of node) i ≡ false
offers-fill_of_other node i n = rw (offers-fill_of node i) (other (mark_at node i) n)
  where
    other : (m : Mark) → m ≢ In → is_in m ≡ false
    other In n = absurd (n refl)
    other Out n = refl
    other Open n = refl

-- What it offers is In.
pub in_from_fill : (node : List Mark) (i : ℕ) → offers (fill_of node) i ≡ true → mark_at node i ≡ In
in_from_fill [] i h = cc
in_from_fill (In ∷ node) zero h = refl
in_from_fill (Out ∷ node) zero h = cc
in_from_fill (Open ∷ node) zero h = cc
in_from_fill (m ∷ node) (suc i) h = in_from_fill node i h

-- ---- The first Open product.

-- It is the Open one before which none is.
pub first_open_at : (node : List Mark) (i : ℕ) → i < length node → ((k : ℕ) → k < i → mark_at node k ≢ Open) → mark_at node i ≡ Open → first_open node ≡ Some i
first_open_at [] i l none at = absurd (omega arith)
first_open_at (Open ∷ node) zero l none at = refl
first_open_at (Open ∷ node) (suc i) l none at = absurd (none 0 (omega arith) refl)
first_open_at (In ∷ node) zero l none at = absurd cc
first_open_at (In ∷ node) (suc i) l none at = ap (option_map suc) (first_open_at node i (omega arith) (λ k m. none (suc k) (omega arith)) at)
first_open_at (Out ∷ node) zero l none at = absurd cc
first_open_at (Out ∷ node) (suc i) l none at = ap (option_map suc) (first_open_at node i (omega arith) (λ k m. none (suc k) (omega arith)) at)

-- There is none where no product is Open.
pub first_open_none : (node : List Mark) → ((k : ℕ) → k < length node → mark_at node k ≢ Open) → first_open node ≡ None
first_open_none [] none = refl
first_open_none (Open ∷ node) none = absurd (none 0 (omega arith) refl)
first_open_none (In ∷ node) none = ap (option_map suc) (first_open_none node (λ k m. none (suc k) (omega arith)))
first_open_none (Out ∷ node) none = ap (option_map suc) (first_open_none node (λ k m. none (suc k) (omega arith)))

-- There is one first Open product.
pub IsFirstOpen-unique : (node : List Mark) (i j : ℕ) → IsFirstOpen node i → IsFirstOpen node j → i ≡ j
IsFirstOpen-unique node i j h k = elim (cases_lt i j) [
  | inl b ↦ absurd (k.first i b h.open_mark)
  | inr b ↦ elim (cases_lt j i) [ inl c ↦ absurd (h.first j c k.open_mark) | inr c ↦ omega arith ]
]

-- ---- The first products are settled.

-- In a node of open products none is settled.
pub IsSettledTo-open_node : (n : ℕ) → IsSettledTo 0 (open_node n)
IsSettledTo-open_node n = record {
  inside = omega arith;
  settled = λ i l. absurd (omega arith);
  others = λ i l m. mark_at-open_node n i (let e = length-open_node n in omega arith);
}

-- The first that isn't settled is the first Open one.
pub IsFirstOpen-from_settled : (k : ℕ) (node : List Mark) → IsSettledTo k node → k < length node → IsFirstOpen node k
IsFirstOpen-from_settled k node s l = record { open_mark = s.others k (omega arith) l; first = s.settled }

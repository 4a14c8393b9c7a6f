-- The bound of the shelf, read from the kept table.
use Rattle.std.proofs.Common.{◌≡◌, ℕ, ◌+◌, ◌-◌, ◌^◌, ◌<◌, ◌≤◌, Bool, true, false, cond, List, length, refl, sym, ◌∙◌, ap, arith, add-one, Option, Some, None}
use Rattle.std.specs.Prelude.{pos, ◌+ℤ◌}
use lib.IntN.{ℤ}
use Rattle.std.proofs.lemmas.Int.{ints}
use Rattle.offer_model.specs.declared.node.Mark.{Mark}
use Rattle.offer_model.specs.declared.node.Mark.TheVariants.{Open}
use Rattle.offer_model.proofs.NodeLemmas.{offers-fill_of}
use Rattle.offer_model.specs.Assortments.{offers}
use Rattle.offer_model.specs.Problems.{ProblemData, product_count}
use Rattle.offer_model.specs.Revenue.{sum_offered}
use Rattle.offer_model.specs.Nodes.{mark_at, is_in, fill_of, IsSettledTo}
use Rattle.offer_model.specs.Prices.{Prices, int_sum_below, worth_of}
use Rattle.offer_model.specs.LeafBounds.{raised_by, best_in_space, shelf_space, bound_in_space, shelf_bound}
use Rattle.linear_step.specs.Weights.{IsWithin, WeightsData, AreWeights, weight_at, prices_of}
use Rattle.shelf_table.specs.Tables.{TableData, IsTableOf, cell_at, space_of, price_in, best_from, free_prices}
use Rattle.shelf_table.specs.Rooms.{AreSpaces, IsRoomLeft}
use Rattle.shelf_table.proofs.CallerLemmas.{best_from-same, rest_from, shelf_bound-fits, shelf_bound-over}
use Rattle.shelf_table.proofs.RoomLemmas.{room_is, over_is}
use Rattle.leaf_bounds.specs.Shelves.{IsSmall}
use Rattle.leaf_bounds.specs.Kept.{space_for, HasTable}
use Rattle.leaf_bounds.specs.declared.kept_table.KeptTable.{KeptTable}
use Rattle.leaf_bounds.proofs.LadderLemmas.{within_sum}
use Rattle.leaf_bounds.proofs.SpaceLemmas.{best_small}

-- ---- What is In.

-- The constant, and the prices of what is In below n.
abbrev pub worth_below : List Mark → Prices → ℕ → ℤ
worth_below node at n = at.constant +ℤ int_sum_below n (λ i. cond (offers (fill_of node) i) (at.price i) (pos 0))

pub worth_more : (node : List Mark) (at : Prices) (n : ℕ) (sum z : ℤ) → sum ≡ worth_below node at n → z ≡ cond (is_in (mark_at node n)) (at.price n) (pos 0)
    → (sum +ℤ z) ≡ worth_below node at (n + 1)
worth_more node at n sum z e here = rw (add-one, offers-fill_of node n) (omega (arith, ints, e, here))

pub worth_at : (m k : Mark) (x y z : ℤ) → m ≡ k → x ≡ y → y ≡ z → cond (is_in m) x (pos 0) ≡ cond (is_in k) z (pos 0)
worth_at m k x y z e f g = cc

pub worth_small : (p : ProblemData) (node : List Mark) (w : WeightsData) (n : ℕ) → AreWeights p w → product_count p ≤ 256 → n ≤ product_count p
    → IsWithin (2 ^ 126) (worth_below node (prices_of w) n)
worth_small p node w n s few l =
    let sum = within_sum n (λ i. cond (offers (fill_of node) i) (weight_at w i) (pos 0)) (λ i h. small (offers (fill_of node) i) (weight_at w i) (s.small i (omega arith))) in
    let a = sum.0 in let b = sum.1 in let c = s.constant.0 in let d = s.constant.1 in
    (omega (arith, ints), omega (arith, ints))
  where
    small : (b : Bool) (z : ℤ) → IsWithin (2 ^ 98) z → IsWithin (2 ^ 98) (cond b z (pos 0))
    small true z h = h
    small false z h = (omega (arith, ints), omega (arith, ints))

-- ---- The cell of the first Open product.

-- The prices that a node leaves open are those of its Open products.
open_price : (node : List Mark) (price : ℕ → ℤ) (i : ℕ) → mark_at node i ≡ Open → free_prices node price i ≡ price i
open_price node price i e = rw e refl

cell_is : (p : ProblemData) (node : List Mark) (w : WeightsData) (t : TableData) (prices : List ℤ) (k room : ℕ) → IsSettledTo k node → length node ≡ product_count p
    → IsTableOf t (space_of p) (price_in prices) → t.products ≡ product_count p → room ≤ t.space
    → ((i : ℕ) → i < product_count p → price_in prices i ≡ weight_at w i)
    → cell_at t k room ≡ best_from (space_of p) (free_prices node (weight_at w)) (product_count p) 0 room
cell_is p node w t prices k room f long table products inside same =
    let l = f.inside in
    table k room (omega arith) inside
    ∙ ap (λ n. best_from (space_of p) (price_in prices) n k room) products
    ∙ best_from-same (space_of p) (price_in prices) (free_prices node (weight_at w)) (product_count p) k room (omega arith)
    (λ i h j. same i j ∙ sym (open_price node (weight_at w) i (f.others i h (omega arith))))
    ∙ sym (rest_from p node (weight_at w) k room (omega arith) f.settled)

-- What is In and the cell are the bound.
pub kept_bound : (p : ProblemData) (node : List Mark) (w : WeightsData) (s : KeptTable) (spaces : List ℕ) (space room k : ℕ) (worth cell : ℤ)
    → HasTable p s → IsTableOf s.table (space_of p) (price_in s.prices.items) → ((i : ℕ) → i < product_count p → price_in s.prices.items i ≡ weight_at w i)
    → IsSettledTo k node → length node ≡ product_count p → AreSpaces p spaces → Some space ≡ shelf_space p.limits → IsRoomLeft spaces space node (Some room)
    → worth ≡ worth_of p (prices_of w) (fill_of node) → cell ≡ cell_at s.table k room → Some (worth +ℤ cell) ≡ shelf_bound p node (prices_of w)
kept_bound p node w s spaces space room k worth cell has table same first long are shelf left ew ec =
    let fits = room_is p spaces space node room are left in
    let whole : s.table.space ≡ space = has.space ∙ sym (ap space_for shelf) in
    let is = cell_is p node w s.table s.prices.items k room first long table has.products (omega arith) same in
    let rest : space - sum_offered p (fill_of node) (space_of p) ≡ room = omega arith in
    sym (shelf_bound-fits p node (prices_of w) space (sym shelf) (omega arith) ∙ rw (rest, ew, ec, is) refl)

-- Where what is In doesn't fit there is none.
pub kept_over : (p : ProblemData) (node : List Mark) (w : WeightsData) (spaces : List ℕ) (space : ℕ) → AreSpaces p spaces → Some space ≡ shelf_space p.limits
    → IsRoomLeft spaces space node None → ◌≡◌ {A = Option ℤ} None (shelf_bound p node (prices_of w))
kept_over p node w spaces space s shelf over = sym (shelf_bound-over p node (prices_of w) space (sym shelf) (over_is p spaces space node s over))

-- Nor is there without a shelf.
pub kept_none : (p : ProblemData) (node : List Mark) (w : WeightsData) → ◌≡◌ {A = Option ℕ} None (shelf_space p.limits)
    → ◌≡◌ {A = Option ℤ} None (shelf_bound p node (prices_of w))
kept_none p node w e = rw (← e) refl

-- ---- The bound is small.

raised_small : (a z : ℤ) (o : Option ℤ) → IsWithin (2 ^ 106) a → IsSmall (2 ^ 107) o → Some z ≡ raised_by a o → IsWithin (2 ^ 126) z
raised_small a z None h s e = cc
raised_small a z (Some b) h s e =
    let same : z ≡ (a +ℤ b) = cc in
    let c = h.0 in let d = h.1 in let f = s.0 in let g = s.1 in
    (omega (arith, ints), omega (arith, ints))

pub bound_small : (p : ProblemData) (node : List Mark) (w : WeightsData) (s : KeptTable) (space : ℕ) (z : ℤ) → HasTable p s → AreWeights p w
    → Some space ≡ shelf_space p.limits → Some z ≡ shelf_bound p node (prices_of w) → IsWithin (2 ^ 126) z
bound_small p node w s space z has weights shelf e =
    let here : Some z ≡ bound_in_space p node (prices_of w) (Some space) = e ∙ ap (bound_in_space p node (prices_of w)) (sym shelf) in
    raised_small w.constant z (best_in_space p node (weight_at w) (product_count p) space) weights.constant
    (best_small p node (weight_at w) (product_count p) space _ (omega (arith, has.few, has.products)) weights.small refl) here

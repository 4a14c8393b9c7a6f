-- The room that a node leaves on a shelf.
use Rattle.std.proofs.Common.{◌≡◌, ℕ, ◌+◌, ◌-◌, ◌<◌, ◌≤◌, cond, List, length, get_or, refl, sym, ap, arith, subst, inl, inr, ◌∙◌, add-one}
use Rattle.std.specs.Prelude.{Some, None, ◌⊎◌}
use Rattle.std.proofs.lemmas.List.{get_or_past}
use Rattle.std.proofs.lemmas.Bool.{cases_lt}
use mathlib.Core.Path.{fun_ext}
use Rattle.offer_model.specs.declared.node.Mark.{Mark}
use Rattle.offer_model.specs.declared.node.Mark.TheVariants.{In}
use Rattle.offer_model.specs.declared.products.Product.{Product}
use Rattle.offer_model.specs.Assortments.{offers, sum_below}
use Rattle.offer_model.specs.Problems.{ProblemData, product_count, no_product}
use Rattle.offer_model.specs.Revenue.{sum_offered}
use Rattle.offer_model.specs.Nodes.{mark_at, fill_of}
use Rattle.offer_model.proofs.NodeLemmas.{offers-fill_of}
use Rattle.offer_model.proofs.SumLemmas.{sum_below_le}
use Rattle.shelf_table.specs.Tables.{space_of}
use Rattle.shelf_table.specs.Rooms.{AreSpaces, IsRoomLeft}

-- ---- Spaces.

-- Past the products both are 0.
pub spaces_same : (p : ProblemData) (spaces : List ℕ) → AreSpaces p spaces → (λ i. get_or spaces i 0) ≡ space_of p
spaces_same p spaces s = fun_ext (λ i. by_place i (cases_lt i (product_count p)))
  where
    by_place : (i : ℕ) → ((i < product_count p) ⊎ (product_count p ≤ i)) → get_or spaces i 0 ≡ space_of p i
    by_place i (inl l) = s.is i l
    by_place i (inr l) =
        let e = s.each in
        let a : get_or spaces i 0 ≡ 0 = get_or_past spaces i 0 (omega arith) in
        let b = get_or_past p.products i no_product l in
        a ∙ sym (ap (λ (t : Product). t.space) b)

-- ---- Product by product.

sum_in : (spaces : List ℕ) (node : List Mark) (i : ℕ) → mark_at node i ≡ In
    → sum_below (i + 1) (λ j. cond (offers (fill_of node) j) (get_or spaces j 0) 0)
    ≡ sum_below i (λ j. cond (offers (fill_of node) j) (get_or spaces j 0) 0) + get_or spaces i 0
sum_in spaces node i e = rw (add-one, offers-fill_of node i, e) refl

-- Where what is In doesn't fit the room that is left, all that is In is too wide.
pub no_room : (spaces : List ℕ) (node : List Mark) (shelf i room : ℕ) → i < length spaces → mark_at node i ≡ In
    → sum_below i (λ j. cond (offers (fill_of node) j) (get_or spaces j 0) 0) + room ≡ shelf → room < get_or spaces i 0
    → shelf < sum_below (length spaces) (λ j. cond (offers (fill_of node) j) (get_or spaces j 0) 0)
no_room spaces node shelf i room inside m so_far over =
    let here = sum_in spaces node i m in
    let all = sum_below_le (i + 1) (length spaces) (λ j. cond (offers (fill_of node) j) (get_or spaces j 0) 0) (omega arith) in
    omega arith

-- What is In takes its space from the room.
pub room_taken : (spaces : List ℕ) (node : List Mark) (shelf i room : ℕ) → mark_at node i ≡ In
    → sum_below i (λ j. cond (offers (fill_of node) j) (get_or spaces j 0) 0) + room ≡ shelf → get_or spaces i 0 ≤ room
    → sum_below (i + 1) (λ j. cond (offers (fill_of node) j) (get_or spaces j 0) 0) + (room - get_or spaces i 0) ≡ shelf
room_taken spaces node shelf i room m so_far fits = let here = sum_in spaces node i m in omega arith

-- ---- By the problem's spaces.

-- The room that is left and the space of what is In are the shelf.
pub room_is : (p : ProblemData) (spaces : List ℕ) (shelf : ℕ) (node : List Mark) (room : ℕ) → AreSpaces p spaces → IsRoomLeft spaces shelf node (Some room)
    → sum_offered p (fill_of node) (space_of p) + room ≡ shelf
room_is p spaces shelf node room s h =
    subst (λ (f : ℕ → ℕ). sum_below (product_count p) (λ i. cond (offers (fill_of node) i) (f i) 0) + room ≡ shelf) (spaces_same p spaces s)
    (subst (λ n. sum_below n (λ i. cond (offers (fill_of node) i) (get_or spaces i 0) 0) + room ≡ shelf) s.each h)

-- Where no room is left, what is In is too wide.
pub over_is : (p : ProblemData) (spaces : List ℕ) (shelf : ℕ) (node : List Mark) → AreSpaces p spaces → IsRoomLeft spaces shelf node None
    → shelf < sum_offered p (fill_of node) (space_of p)
over_is p spaces shelf node s h =
    subst (λ (f : ℕ → ℕ). shelf < sum_below (product_count p) (λ i. cond (offers (fill_of node) i) (f i) 0)) (spaces_same p spaces s)
    (subst (λ n. shelf < sum_below n (λ i. cond (offers (fill_of node) i) (get_or spaces i 0) 0)) s.each h)

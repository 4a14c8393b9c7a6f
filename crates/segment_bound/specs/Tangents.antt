-- The tangent of mixed revenue at a node: a linear function of what is offered, in 2 ^ 60ths of a unit, which is nowhere
-- below the revenue of a completion that keeps to the caps. Own.
use Rattle.std.specs.Prelude.{ℕ, ◌+◌, ◌-◌, ◌*◌, ◌/◌, ◌^◌, ◌==◌, min, nat_lt, pos, Bool, false, ◌&&◌, ◌||◌, cond, Option, Some, List, [], ◌∷◌, length}
use Rattle.offer_model.specs.declared.node.Mark.{Mark}
use Rattle.offer_model.specs.declared.products.Limit.{Limit}
use Rattle.offer_model.specs.declared.products.Limit.TheVariants.{Total, Category, Requires, Shelf, Ladder}
use Rattle.offer_model.specs.Assortments.{offers, sum_below}
use Rattle.offer_model.specs.Problems.{ProblemData, product_count, product_at, segment_at}
use Rattle.offer_model.specs.Nodes.{mark_at, is_in, is_open}
use Rattle.offer_model.specs.Revenue.{gain_of, weight_of, segment_value}
use Rattle.tree_search.specs.Goals.{Rules}
use Rattle.segment_bound.specs.Greatest.{greatest}
use Rattle.segment_bound.specs.Orders.{dearest}
use Rattle.segment_bound.specs.MixedGoals.{greatest_sum, mixed_rules}

-- A unit has so many parts.
abbrev pub parts : ℕ
parts = 2 ^ 60

-- The greatest value of segment k, with limits left aside.
abbrev pub units_at : ProblemData → List Mark → ℕ → ℕ
units_at p node k = greatest (segment_value p (segment_at p k)) node

-- The total cap, and n where there is none.
abbrev pub total_cap : List Limit → ℕ → ℕ
total_cap [] n = n
total_cap (Total cap ∷ limits) n = total_cap limits (min cap n)
total_cap (Category c cap ∷ limits) n = total_cap limits n
total_cap (Requires a b ∷ limits) n = total_cap limits n
total_cap (Shelf space ∷ limits) n = total_cap limits n
total_cap (Ladder l ∷ limits) n = total_cap limits n

-- How many products are of the category.
abbrev pub category_size : ProblemData → ℕ → ℕ
category_size p c = sum_below (product_count p) (λ i. cond ((product_at p i).category == c) 1 0)

-- Whether one of the limits caps the category.
abbrev pub caps_category : List Limit → ℕ → Bool
caps_category [] c = false
caps_category (Category d cap ∷ limits) c = d == c || caps_category limits c
caps_category (Total cap ∷ limits) c = caps_category limits c
caps_category (Requires a b ∷ limits) c = caps_category limits c
caps_category (Shelf space ∷ limits) c = caps_category limits c
caps_category (Ladder l ∷ limits) c = caps_category limits c

-- How many products a limit by itself leaves out at least, where it caps a category: those above its cap.
abbrev pub left_by : ProblemData → Limit → ℕ
left_by p (Category c cap) = category_size p c - cap
left_by p (Total cap) = 0
left_by p (Requires a b) = 0
left_by p (Shelf space) = 0
left_by p (Ladder l) = 0

-- How many products the category caps leave out at least. Where several limits cap one
-- category, the last of them counts.
abbrev pub left_out : ProblemData → List Limit → ℕ
left_out p [] = 0
left_out p (Category c cap ∷ limits) = cond (caps_category limits c) 0 (left_by p (Category c cap)) + left_out p limits
left_out p (Total cap ∷ limits) = left_out p limits
left_out p (Requires a b ∷ limits) = left_out p limits
left_out p (Shelf space ∷ limits) = left_out p limits
left_out p (Ladder l ∷ limits) = left_out p limits

-- How many products the caps allow at most: no more than the total cap, and no more than the category caps leave.
abbrev pub most_offered : ProblemData → ℕ
most_offered p = total_cap p.limits (product_count p - left_out p p.limits)

-- How many of what is Open the caps leave room for.
abbrev pub room_at : ProblemData → List Mark → ℕ
room_at p node = most_offered p - sum_below (product_count p) (λ i. cond (is_in (mark_at node i)) 1 0)

-- How many of what is Open the assortment offers.
abbrev pub added : ProblemData → List Mark → List Bool → ℕ
added p node y = sum_below (product_count p) (λ i. cond (is_open (mark_at node i) && offers y i) 1 0)

-- The function where there is room for the assortment, and 0 where there isn't.
abbrev pub within_cap : ProblemData → List Mark → (List Bool → ℕ) → List Bool → ℕ
within_cap p node f y = cond (nat_lt (room_at p node) (added p node y)) 0 (f y)

-- The parts that stand for one of the segment's weight: no completion that there is room for has a weight that stands for
-- more than a unit.
abbrev pub scale_at : ProblemData → List Mark → ℕ → ℕ
scale_at p node k = parts / greatest (within_cap p node (weight_of p (segment_at p k))) node

abbrev pub share_at : ProblemData → ℕ → ℕ
share_at p k = (segment_at p k).size * p.unit

-- What speaks for the assortment: in each segment its greatest value, and what this assortment gains there.
abbrev pub raised : ProblemData → List Mark → List Bool → ℕ
raised p node y = sum_below (length p.segments) (λ k. parts * units_at p node k + scale_at p node k * (share_at p k * gain_of p (segment_at p k) y))

-- What speaks against it: in each segment the gain that the greatest value would need at its weight.
abbrev pub lowered : ProblemData → List Mark → List Bool → ℕ
lowered p node y = sum_below (length p.segments) (λ k. scale_at p node k * (units_at p node k * weight_of p (segment_at p k) y))

abbrev pub tangent_at : ProblemData → List Mark → List Bool → ℕ
tangent_at p node y = raised p node y - lowered p node y

-- The tangent's greatest number over the node's completions that there is room for, rounded down to units once.
abbrev pub tangent_bound : ProblemData → List Mark → ℕ
tangent_bound p node = greatest (within_cap p node (tangent_at p node)) node / parts

-- A goal as contracts see it: its problem, and the products by which nodes are divided, one after another.
pub record TangentGoalData : Type 0 where
  pub problem : ProblemData
  pub order : List ℕ

-- The first Open product of the order, and the dearest one where the order has none.
abbrev pub next_in : ProblemData → List Mark → List ℕ → Option ℕ
next_in p node [] = dearest p node
next_in p node (i ∷ order) = cond (is_open (mark_at node i)) (Some i) (next_in p node order)

-- The goal of mixed logit with the lesser of both bounds, of each segment by itself and of all together. Nodes are divided in the order.
abbrev pub tangent_rules : ProblemData → List ℕ → Rules
tangent_rules p order = record (mixed_rules p) {
  bound = λ node. pos (min (greatest_sum p node) (tangent_bound p node));
  next = λ node. next_in p node order;
}

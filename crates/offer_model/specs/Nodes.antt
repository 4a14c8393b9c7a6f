-- Nodes: what the branches above have settled about each product, and the assortments that are left. Own.
use Rattle.std.specs.Prelude.{◌≡◌, ◌≢◌, ℕ, ⊤, ◌+◌, ◌<◌, ◌≤◌, Bool, true, false, Option, None, Some, option_map, List, [], ◌∷◌, length, map, replicate, Any, slice_index_or}
use Prim.Native.Nat.{suc}
use Rattle.std.specs.List.{AllZip}
use Rattle.offer_model.specs.declared.node.Mark.{Mark}
use Rattle.offer_model.specs.declared.node.Mark.TheVariants.{In, Out, Open}
use Rattle.offer_model.specs.declared.products.Limit.{Limit}
use Rattle.offer_model.specs.declared.products.Limit.TheVariants.{Total, Category, Requires, Shelf, Ladder}
use Rattle.offer_model.specs.Assortments.{IsBefore}
use Rattle.offer_model.specs.Problems.{ProblemData}
use Rattle.offer_model.specs.Limits.{Meets}

-- The mark of product i. Past the end it is Out.
abbrev pub mark_at : List Mark → ℕ → Mark
mark_at node i = slice_index_or node i Out

-- The node of n products of which nothing is settled.
abbrev pub open_node : ℕ → List Mark
open_node n = replicate n Open

-- A product that is In is offered, and one that is Out isn't.
abbrev pub Agrees : Mark → Bool → Type 0
Agrees In offered = offered ≡ true
Agrees Out offered = offered ≡ false
Agrees Open offered = ⊤

-- The assortment agrees with each mark of the node, and has no further products.
abbrev pub Completes : List Mark → List Bool → Type 0
Completes node y = AllZip Agrees node y

abbrev pub is_in : Mark → Bool
is_in In = true
is_in Out = false
is_in Open = false

-- The assortment that offers exactly what is In. Of all completions it is before every other.
abbrev pub fill_of : List Mark → List Bool
fill_of node = map is_in node

-- The node's first completion, its fill, isn't before x. So no completion of the node is.
abbrev pub ComesAfter : List Mark → List Bool → Type 0
ComesAfter node x = ¬ IsBefore (fill_of node) x

abbrev pub is_open : Mark → Bool
is_open Open = true
is_open In = false
is_open Out = false

-- The first Open product, in catalogue order.
abbrev pub first_open : List Mark → Option ℕ
first_open [] = None
first_open (Open ∷ node) = Some 0
first_open (In ∷ node) = option_map suc (first_open node)
first_open (Out ∷ node) = option_map suc (first_open node)

abbrev pub one_if_open : Mark → ℕ
one_if_open Open = 1
one_if_open In = 0
one_if_open Out = 0

-- How many products are Open.
abbrev pub opens : List Mark → ℕ
opens [] = 0
opens (m ∷ node) = one_if_open m + opens node

-- The products below k are settled, and the others are Open.
pub record IsSettledTo (k : ℕ) (node : List Mark) : Type 0 where
  pub inside : k ≤ length node
  pub settled : (i : ℕ) → i < k → mark_at node i ≢ Open
  pub others : (i : ℕ) → k ≤ i → i < length node → mark_at node i ≡ Open

-- The node as bounds and clashes read it: with the marks that every feasible completion has to agree with.
abbrev pub settled_node : ProblemData → List Mark → List Mark
settled_node p node = node

-- The mark of product i that bounds and clashes read.
abbrev pub settled_mark : ProblemData → List Mark → ℕ → Mark
settled_mark p node i = mark_at (settled_node p node) i

-- What is In breaks the limit by itself; of `requires`, the first product is In and the second Out.
abbrev pub ClashesAt : ProblemData → List Mark → Limit → Type 0
ClashesAt p node (Requires a b) = (settled_mark p node a ≡ In) × (settled_mark p node b ≡ Out)
ClashesAt p node (Total cap) = Meets p (fill_of (settled_node p node)) (Total cap) → ⊥
ClashesAt p node (Category c cap) = Meets p (fill_of (settled_node p node)) (Category c cap) → ⊥
ClashesAt p node (Shelf space) = Meets p (fill_of (settled_node p node)) (Shelf space) → ⊥
ClashesAt p node (Ladder l) = Meets p (fill_of (settled_node p node)) (Ladder l) → ⊥

-- The node clashes with some limit. No assortment that completes it is then feasible.
abbrev pub Clashes : ProblemData → List Mark → Type 0
Clashes p node = Any (ClashesAt p node) p.limits

-- Requirements as rows of two products, and the closed sets under them: with each product that has a row they hold what
-- it requires. A closed set of greatest weight is found by a minimum cut: Picard (1976), Maximal closure of a graph and
-- applications to combinatorial problems, Management Science 22. Sets are truth values by product.
use Rattle.std.specs.Prelude.{◌≡◌, ℕ, ◌<◌, Bool, true, cond, List, [], ◌∷◌, length, slice_index_or, pos, ◌≤ℤ◌}
use lib.IntN.{ℤ}
use Rattle.offer_model.specs.declared.node.Mark.{Mark}
use Rattle.offer_model.specs.declared.products.Limit.{Limit}
use Rattle.offer_model.specs.declared.products.Limit.TheVariants.{Total, Category, Requires, Shelf, Ladder}
use Rattle.offer_model.specs.Nodes.{mark_at, Agrees}
use Rattle.offer_model.specs.Prices.{int_sum_below}
use Rattle.cut_step.specs.declared.rows.Row.{Row}

-- The requirements among the limits, in order.
abbrev pub rows_of : List Limit → List Row
rows_of [] = []
rows_of (Requires a b ∷ limits) = record { first = a; second = b } ∷ rows_of limits
rows_of (Total cap ∷ limits) = rows_of limits
rows_of (Category c cap ∷ limits) = rows_of limits
rows_of (Shelf space ∷ limits) = rows_of limits
rows_of (Ladder l ∷ limits) = rows_of limits

abbrev pub row_at : List Row → ℕ → Row
row_at rows k = slice_index_or rows k (record { first = 0; second = 0 })

-- The product that has a requirement, and the product that it requires.
abbrev pub first_of : List Row → ℕ → ℕ
first_of rows k = (row_at rows k).first

abbrev pub second_of : List Row → ℕ → ℕ
second_of rows k = (row_at rows k).second

-- The rows name products below n.
abbrev pub AreNamed : List Row → ℕ → Type 0
AreNamed rows n = (k : ℕ) → k < length rows → (first_of rows k < n) × (second_of rows k < n)

-- The set keeps each requirement.
abbrev pub Keeps : List Row → (ℕ → Bool) → Type 0
Keeps rows y = (k : ℕ) → k < length rows → y (first_of rows k) ≡ true → y (second_of rows k) ≡ true

-- A closed set that agrees with the node.
pub record IsClosure (rows : List Row) (node : List Mark) (y : ℕ → Bool) : Type 0 where
  pub keeps : Keeps rows y
  pub agrees : (i : ℕ) → i < length node → Agrees (mark_at node i) (y i)

abbrev pub HasNoClosure : List Row → List Mark → Type 0
HasNoClosure rows node = (y : ℕ → Bool) → IsClosure rows node y → ⊥

-- The price of product i. Past the end it is 0.
abbrev pub price_at : List ℤ → ℕ → ℤ
price_at prices i = slice_index_or prices i (pos 0)

-- The sum of g over the products below n in the set.
abbrev pub sum_over : ℕ → (ℕ → Bool) → (ℕ → ℤ) → ℤ
sum_over n y g = int_sum_below n (λ i. cond (y i) (g i) (pos 0))

-- The prices of all products in the set.
abbrev pub total_of : List ℤ → (ℕ → Bool) → ℤ
total_of prices y = sum_over (length prices) y (price_at prices)

-- A closed set that agrees with the node, and no other has a greater total.
pub record IsGreatestClosure (rows : List Row) (node : List Mark) (prices : List ℤ) (y : ℕ → Bool) : Type 0 where
  pub closed : IsClosure rows node y
  pub most : (z : ℕ → Bool) → IsClosure rows node z → total_of prices z ≤ℤ total_of prices y

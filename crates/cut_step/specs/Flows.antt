-- Amounts that are carried over rows from the prices of the first products to those of the second: a flow. The amounts
-- are the multipliers of the requirements, and the excesses, what is left of the prices, are the prices under these. Own,
-- after the duality of maximum flows and minimum cuts (Ford and Fulkerson, 1956).
use Rattle.std.specs.Prelude.{◌≡◌, ℕ, ◌<◌, ◌==◌, Bool, true, false, cond, List, length, slice_index, pos, ◌+ℤ◌, ◌-ℤ◌, ◌≤ℤ◌}
use lib.IntN.{ℤ}
use Rattle.offer_model.specs.declared.node.Mark.{Mark}
use Rattle.offer_model.specs.declared.node.Mark.TheVariants.{In, Out, Open}
use Rattle.offer_model.specs.Nodes.{mark_at}
use Rattle.offer_model.specs.Prices.{int_sum_below, most_of}
use Rattle.cut_step.specs.declared.rows.Row.{Row}
use Rattle.cut_step.specs.Closures.{first_of, second_of, Keeps, price_at, sum_over}

-- What the amounts f over m rows from a to b bring to the set, less what they take from it.
abbrev pub moved : ℕ → (ℕ → ℕ) → (ℕ → ℕ) → (ℕ → ℕ) → (ℕ → Bool) → ℤ
moved m a b f y = int_sum_below m (λ k. cond (y (b k)) (pos (f k)) (pos 0) -ℤ cond (y (a k)) (pos (f k)) (pos 0))

-- The excesses are the prices after the amounts were carried, as seen from each set of products.
pub record IsBalanced (rows : List Row) (prices excess : List ℤ) (amounts : List ℕ) : Type 0 where
  pub is : (y : ℕ → Bool) → sum_over (length prices) y (price_at excess)
      ≡ sum_over (length prices) y (price_at prices) +ℤ moved (length rows) (first_of rows) (second_of rows) (slice_index amounts) y

-- What is left of a price is in order for the side of the cut on which its product stands: an Open product is in the set
-- where more than 0 is left, and outside where less than 0 is.
abbrev pub IsSettled : Mark → Bool → ℤ → Type 0
IsSettled In b z = b ≡ true
IsSettled Out b z = b ≡ false
IsSettled Open true z = pos 0 ≤ℤ z
IsSettled Open false z = z ≤ℤ pos 0

-- Amounts and a closed set that prove each other greatest: no row carries an amount into the set from outside, so the
-- set is the near side of a cut that is full.
pub record IsCertified (rows : List Row) (node : List Mark) (prices excess : List ℤ) (amounts : List ℕ) (s : ℕ → Bool) : Type 0 where
  pub balanced : IsBalanced rows prices excess amounts
  pub keeps : Keeps rows s
  pub tight : (k : ℕ) → k < length rows → 0 < slice_index amounts k → s (second_of rows k) ≡ true → s (first_of rows k) ≡ true
  pub settled : (i : ℕ) → i < length prices → IsSettled (mark_at node i) (s i) (price_at excess i)

-- What the node's completions bring at most at these prices, limits left aside.
abbrev pub bound : List Mark → ℕ → (ℕ → ℤ) → ℤ
bound node n price = int_sum_below n (λ i. most_of (mark_at node i) (price i))

-- z at product a, and 0 elsewhere.
abbrev pub at : ℕ → ℕ → ℤ → ℤ
at i a z = cond (i == a) z (pos 0)

-- d is carried from one product to another.
pub record Carried (excess excess' : List ℤ) (from to d : ℕ) : Type 0 where
  pub length_is : length excess' ≡ length excess
  pub is : (i : ℕ) → price_at excess' i ≡ (price_at excess i -ℤ at i from (pos d)) +ℤ at i to (pos d)

-- From which product row k carries, and to which: on from the first to the second, back the other way.
abbrev pub source_of : List Row → ℕ → Bool → ℕ
source_of rows k back = cond back (second_of rows k) (first_of rows k)

abbrev pub target_of : List Row → ℕ → Bool → ℕ
target_of rows k back = cond back (first_of rows k) (second_of rows k)

-- The numbers are within this of 0.
pub record AreWithin (excess : List ℤ) (most : ℕ) : Type 0 where
  pub low : (i : ℕ) → pos 0 ≤ℤ (price_at excess i +ℤ pos most)
  pub high : (i : ℕ) → price_at excess i ≤ℤ pos most

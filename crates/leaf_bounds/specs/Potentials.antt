-- Which numbers may be potentials, product by product. Own.
use Rattle.std.specs.Prelude.{◌≡◌, ℕ, ◌<◌, ◌↔◌, IsTrue, Bool, List, length, pos, ◌+ℤ◌, ◌≤ℤ◌, slice_index}
use lib.IntN.{ℤ}
use Rattle.offer_model.specs.declared.node.Mark.{Mark}
use Rattle.offer_model.specs.declared.node.Mark.TheVariants.{In}
use Rattle.offer_model.specs.Assortments.{offers}
use Rattle.offer_model.specs.Problems.{ProblemData, product_count, product_at}
use Rattle.offer_model.specs.Limits.{MayStand}
use Rattle.offer_model.specs.Nodes.{settled_mark}
use Rattle.offer_model.specs.Prices.{Prices, int_sum_below}
use Rattle.offer_model.specs.LeafBounds.{is_limited, ladder_of, IsUsable, Rises, most_beside}

-- The set of the products on limited ladders.
pub record AreLimited (p : ProblemData) (limited : List Bool) : Type 0 where
  pub each : length limited ≡ product_count p
  pub is : (i : ℕ) → i < product_count p → offers limited i ≡ is_limited p.limits (ladder_of p i)

-- The set of the products that are usable at the node.
pub record AreUsable (p : ProblemData) (node : List Mark) (usable : List Bool) : Type 0 where
  pub each : length usable ≡ product_count p
  pub is : (i : ℕ) → i < product_count p → IsTrue (offers usable i) ↔ IsUsable p node i

-- Product j is In, and on the ladder of product i.
abbrev pub IsBeside : ProblemData → List Mark → ℕ → ℕ → Type 0
IsBeside p node i j = (settled_mark p node j ≡ In) × (ladder_of p j ≡ ladder_of p i)

-- Product i may stand together with each product of its ladder that is In.
abbrev pub FitsBeside : ProblemData → List Mark → ℕ → Type 0
FitsBeside p node i = (j : ℕ) → j < product_count p → IsBeside p node i j
    → MayStand (product_at p i) (product_at p j) × MayStand (product_at p j) (product_at p i)

-- Product j is usable and of the ladder of product i, and from i to j the grade rises and the price doesn't fall.
abbrev pub IsRise : ProblemData → List Bool → ℕ → ℕ → Type 0
IsRise p usable i j = IsTrue (offers usable j) × (ladder_of p i ≡ ladder_of p j) × Rises (product_at p i) (product_at p j)

-- The number of product i covers its price and the number of product j.
abbrev pub Covers : (ℕ → ℤ) → List ℕ → ℕ → ℕ → Type 0
Covers price us i j = (price i +ℤ pos (slice_index us j)) ≤ℤ pos (slice_index us i)

-- It covers its price and the number of each usable product that it rises to.
abbrev pub CoversRises : ProblemData → (ℕ → ℤ) → List Bool → List ℕ → ℕ → Type 0
CoversRises p price usable us i = (j : ℕ) → j < product_count p → IsRise p usable i j → Covers price us i j

-- The number of product i may be its potential.
pub record IsPotential (p : ProblemData) (price : ℕ → ℤ) (usable : List Bool) (us : List ℕ) (i : ℕ) : Type 0 where
  pub unused : (IsTrue (offers usable i) → ⊥) → slice_index us i ≡ 0
  pub alone : IsTrue (offers usable i) → price i ≤ℤ pos (slice_index us i)
  pub chained : IsTrue (offers usable i) → CoversRises p price usable us i

-- The constant, and what the first n products add at most beside the tops of the ladders.
abbrev pub worth_beside : ProblemData → List Mark → Prices → ℕ → ℤ
worth_beside p node at n = at.constant
    +ℤ int_sum_below n (λ i. most_beside (settled_mark p node i) (is_limited p.limits (ladder_of p i)) (at.price i))

-- Potentials under price ladders: those of a longest path. Own.
use Rattle.std.specs.Prelude.{◌≡◌, ℕ, ◌*◌, ◌<◌, ◌≤◌, ◌⊎◌, ⊤, List, length, Option, Some, None, pos, ◌+ℤ◌, slice_index}
use lib.IntN.{ℤ}
use Rattle.offer_model.specs.declared.node.Mark.{Mark}
use Rattle.offer_model.specs.declared.node.Mark.TheVariants.{In}
use Rattle.offer_model.specs.declared.products.Product.{Product}
use Rattle.offer_model.specs.Problems.{ProblemData, product_count, product_at}
use Rattle.offer_model.specs.Nodes.{mark_at}
use Rattle.offer_model.specs.Prices.{positive_part}
use Rattle.offer_model.specs.LeafBounds.{IsUsable, Rises, ladder_of}
use Rattle.linear_step.specs.Weights.{price_bound}
use Rattle.linear_step.specs.Closings.{number_bound}
use Rattle.table_steps.specs.LadderRungs.{RungsData, rungs_at}

-- Product b may come next: the first, or the last before it rises to it.
abbrev pub Follows : Option Product → Product → Type 0
Follows None b = ⊤
Follows (Some a) b = Rises a b

-- Product i may be offered beside each listed product that is In: one rises to the other.
abbrev pub StandsBeside : ProblemData → List Mark → List ℕ → ℕ → Type 0
StandsBeside p node list i = (q : ℕ) → q < length list → mark_at node (slice_index list q) ≡ In
    → Rises (product_at p i) (product_at p (slice_index list q)) ⊎ Rises (product_at p (slice_index list q)) (product_at p i)

-- m is the greatest number of a listed product, from place k on and before place e, that follows; 0 without one.
pub record IsGreatestAfter (p : ProblemData) (us list : List ℕ) (last : Option Product) (k e m : ℕ) : Type 0 where
  pub most : (q : ℕ) → k ≤ q → q < e → Follows last (product_at p (slice_index list q))
      → slice_index us (slice_index list q) ≤ m
  pub reached : (m ≡ 0) ⊎ ((q : ℕ) × (k ≤ q) × (q < e) × Follows last (product_at p (slice_index list q))
      × (slice_index us (slice_index list q) ≡ m))

-- Product i rises to product j of its ladder.
abbrev pub RisesTo : ProblemData → ℕ → ℕ → Type 0
RisesTo p i j = (ladder_of p j ≡ ladder_of p i) × Rises (product_at p i) (product_at p j)

-- m is the greatest number of a product that product i rises to; 0 without one.
pub record IsAbove (p : ProblemData) (us : List ℕ) (i m : ℕ) : Type 0 where
  pub most : (j : ℕ) → j < product_count p → RisesTo p i j → slice_index us j ≤ m
  pub reached : (m ≡ 0) ⊎ ((j : ℕ) × (j < product_count p) × RisesTo p i j × (slice_index us j ≡ m))

-- u is the potential of product i: of a usable product its price and the greatest potential that it rises to, where
-- that is above 0, and 0 of the others.
abbrev pub IsPotential : ProblemData → List Mark → (ℕ → ℤ) → List ℕ → ℕ → ℕ → Type 0
IsPotential p node price us i u =
    (IsUsable p node i × (m : ℕ) × IsAbove p us i m × (pos u ≡ positive_part (price i +ℤ pos m)))
    ⊎ ((IsUsable p node i → ⊥) × (u ≡ 0))

-- From us to vs the products of one ladder get their potentials, and the others keep their numbers.
pub record HasRaised (p : ProblemData) (node : List Mark) (price : ℕ → ℤ) (ladder : ℕ) (us vs : List ℕ) : Type 0 where
  pub each : length vs ≡ length us
  pub potentials : (i : ℕ) → i < product_count p → ladder_of p i ≡ ladder → IsPotential p node price vs i (slice_index vs i)
  pub others : (i : ℕ) → (ladder_of p i ≡ ladder → ⊥) → slice_index vs i ≡ slice_index us i
  pub small : (i : ℕ) → i < product_count p → ladder_of p i ≡ ladder → slice_index vs i ≤ product_count p * price_bound

-- The products of the first k ladders have their potentials, and all others 0.
pub record AreRaised (p : ProblemData) (node : List Mark) (price : ℕ → ℤ) (ladders : List RungsData) (k : ℕ) (us : List ℕ)
    : Type 0 where
  pub each : length us ≡ product_count p
  pub potentials : (j i : ℕ) → j < k → i < product_count p → ladder_of p i ≡ (rungs_at ladders j).ladder
      → IsPotential p node price us i (slice_index us i)
  pub rest : (i : ℕ) → i < product_count p → ((j : ℕ) → j < k → ladder_of p i ≡ (rungs_at ladders j).ladder → ⊥)
      → slice_index us i ≡ 0
  pub small : (i : ℕ) → i < product_count p → slice_index us i ≤ product_count p * price_bound

-- Each product's potential, in catalogue order.
pub record ArePotentials (p : ProblemData) (node : List Mark) (price : ℕ → ℤ) (us : List ℕ) : Type 0 where
  pub each : length us ≡ product_count p
  pub potentials : (i : ℕ) → i < product_count p → IsPotential p node price us i (slice_index us i)
  pub small : (i : ℕ) → i < product_count p → slice_index us i ≤ number_bound

-- Each number above 0 is its product's price and the greatest number that the product rises to.
pub record AreSums (p : ProblemData) (price : ℕ → ℤ) (us : List ℕ) : Type 0 where
  pub each : length us ≡ product_count p
  pub sums : (i : ℕ) → i < product_count p → 0 < slice_index us i
      → (m : ℕ) × IsAbove p us i m × (pos (slice_index us i) ≡ price i +ℤ pos m)
  pub small : (i : ℕ) → i < product_count p → slice_index us i ≤ number_bound

-- The products of a ladder in the order of their grades. Own.
use Rattle.std.specs.Prelude.{◌≡◌, ℕ, ◌<◌, ◌≤◌, List, [], length, slice_index, slice_index_or}
use Rattle.offer_model.specs.Problems.{ProblemData, product_count, product_at}
use Rattle.offer_model.specs.LeafBounds.{ladder_of}

-- A ladder's number, and products of it.
pub record RungsData : Type 0 where
  pub ladder : ℕ
  pub products : List ℕ

-- Of several ladders, that at place k.
abbrev pub rungs_at : List RungsData → ℕ → RungsData
rungs_at ladders k = slice_index_or ladders k (record { ladder = 0; products = [] })

-- All products of the ladder, from the lowest grade up.
pub record AreRungs (p : ProblemData) (r : RungsData) : Type 0 where
  pub few : length r.products ≤ product_count p
  pub inside : (q : ℕ) → q < length r.products → slice_index r.products q < product_count p
  pub on : (q : ℕ) → q < length r.products → ladder_of p (slice_index r.products q) ≡ r.ladder
  pub all : (i : ℕ) → i < product_count p → ladder_of p i ≡ r.ladder
      → (q : ℕ) × (q < length r.products) × (slice_index r.products q ≡ i)
  pub rising : (q s : ℕ) → q ≤ s → s < length r.products
      → (product_at p (slice_index r.products q)).grade ≤ (product_at p (slice_index r.products s)).grade

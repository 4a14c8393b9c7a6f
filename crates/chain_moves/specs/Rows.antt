-- The moves of a chain, product by product. They follow from its arcs.
use Rattle.std.specs.Prelude.{◌≡◌, ◌⊎◌, ◌++◌, slice_set, ℕ, ◌+◌, ◌*◌, ◌<◌, ◌==◌, cond, List, [], ◌∷◌, length, slice_index_or, Vec, All}
use Rattle.std.specs.Global.{Global}
use Rattle.offer_model.specs.declared.arc.Arc.{Arc}
use Rattle.offer_model.specs.Chains.{ChainData, place_count, moved}
use Rattle.chain_moves.specs.declared.rows.Move.{Move}

-- The parts of each move times what f has there.
abbrev pub sum_moves : List Move → (ℕ → ℕ) → ℕ
sum_moves [] f = 0
sum_moves (m ∷ ms) f = m.parts * f m.to + sum_moves ms f

-- The same of the arcs from product i.
abbrev pub sum_arcs : List Arc → ℕ → (ℕ → ℕ) → ℕ
sum_arcs [] i f = 0
sum_arcs (arc ∷ arcs) i f = cond (arc.from == i) (arc.parts * f arc.to) 0 + sum_arcs arcs i f

-- These are the moves from product i.
pub record IsRow (c : ChainData) (i : ℕ) (ms : List Move) : Type 0 where
  pub sums : (f : ℕ → ℕ) → sum_moves ms f ≡ moved c i f
  pub ends : All (λ m. m.to < place_count c) ms

-- A row of moves for each product.
pub record AreRows (c : ChainData) (rows : List (Vec Move Global)) : Type 0 where
  pub each : length rows ≡ place_count c
  pub row : (i : ℕ) (r : Vec Move Global) → i < place_count c → r ≡ slice_index_or rows i r → IsRow c i r.items

-- The moves from product i but for those of the arcs that are left.
pub record IsPart (arcs left : List Arc) (n i : ℕ) (ms : List Move) : Type 0 where
  pub sums : (f : ℕ → ℕ) → sum_moves ms f + sum_arcs left i f ≡ sum_arcs arcs i f
  pub ends : All (λ m. m.to < n) ms

-- Such a row for each of n products.
pub record AreParts (arcs left : List Arc) (n : ℕ) (rows : List (Vec Move Global)) : Type 0 where
  pub each : length rows ≡ n
  pub part : (i : ℕ) (r : Vec Move Global) → i < n → r ≡ slice_index_or rows i r → IsPart arcs left n i r.items

-- The arc moves nobody and the rows are as they were, or its move stands last in the row of its product.
abbrev pub IsPut : List (Vec Move Global) → Arc → List (Vec Move Global) → Type 0
IsPut before arc after = ((arc.parts ≡ 0) × (after ≡ before))
    ⊎ ((old : Vec Move Global) × (new : Vec Move Global) × (old ≡ slice_index_or before arc.from old)
    × (new.items ≡ old.items ++ record { to = arc.to; parts = arc.parts } ∷ []) × (after ≡ slice_set before arc.from new))

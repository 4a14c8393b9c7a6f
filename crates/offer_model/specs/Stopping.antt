-- The stopping vectors of a chain: optimal stopping in whole millionths, and the assortment and bounds read off them.
-- Own, after the equations of optimal stopping.
use Rattle.std.specs.Prelude.{◌≡◌, ℕ, ◌+◌, ◌-◌, ◌*◌, ◌/◌, ◌<◌, ◌≤◌, ◌==◌, max, Bool, cond, List, length, slice_index}
use Rattle.offer_model.specs.Assortments.{offers}
use Rattle.offer_model.specs.Chains.{ChainData, place_count, moved, arriving, customer_count, greatest_margin}
use Rattle.offer_model.specs.Moves.{million}

-- n numbers, none above `most`, each of which is what the step makes of them all.
pub record Solves (n most : ℕ) (step : (ℕ → ℕ) → ℕ → ℕ) (us : List ℕ) : Type 0 where
  pub each : length us ≡ n
  pub small : (i : ℕ) → i < n → slice_index us i ≤ most
  pub meets : (i : ℕ) → i < n → slice_index us i ≡ step (slice_index us) i

-- A solution, and no solution is greater anywhere.
pub record IsGreatest (n most : ℕ) (step : (ℕ → ℕ) → ℕ → ℕ) (us : List ℕ) : Type 0 where
  pub solves : Solves n most step us
  pub greatest : (vs : List ℕ) → Solves n most step vs
      → (i : ℕ) → i < n → slice_index vs i ≤ slice_index us i

-- a / b, rounded up.
abbrev pub quotient_up : ℕ → ℕ → ℕ
quotient_up a b = (a + (b - 1)) / b

-- A product's margin in millionths.
abbrev pub own_value : ChainData → ℕ → ℕ
own_value c i = million * slice_index c.margins i

-- No value is above the greatest margin.
abbrev pub value_bound : ChainData → ℕ
value_bound c = million * greatest_margin c

-- The better of the product's own margin and of a move, rounded up.
abbrev pub upper_step : ChainData → (ℕ → ℕ) → ℕ → ℕ
upper_step c f i = max (own_value c i) (quotient_up (moved c i f) c.scale)

-- The product's own margin where the assortment offers it, else a move, rounded down.
abbrev pub lower_step : ChainData → List Bool → (ℕ → ℕ) → ℕ → ℕ
lower_step c x f i = cond (offers x i) (own_value c i) (moved c i f / c.scale)

-- A chain's assortment, its two vectors and its two bounds.
pub record StoppingData : Type 0 where
  pub set : List Bool
  pub upper : List ℕ
  pub lower : List ℕ
  pub lo : ℕ
  pub up : ℕ

-- The greatest upper vector; the products whose own margin reaches it; the greatest lower vector of these; and what
-- arriving customers bring by each vector, the upper bound rounded up and the lower one down.
pub record IsStopping (c : ChainData) (s : StoppingData) : Type 0 where
  pub upper : IsGreatest (place_count c) (value_bound c) (upper_step c) s.upper
  pub set_each : length s.set ≡ place_count c
  pub set : (i : ℕ) → i < place_count c → offers s.set i ≡ (slice_index s.upper i == own_value c i)
  pub lower : IsGreatest (place_count c) (value_bound c) (lower_step c s.set) s.lower
  pub lo : s.lo ≡ arriving c (slice_index s.lower) / customer_count c
  pub up : s.up ≡ quotient_up (arriving c (slice_index s.upper)) (customer_count c)

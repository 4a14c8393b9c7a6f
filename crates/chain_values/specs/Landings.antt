-- Vectors to which sweeps may jump.
use Rattle.std.specs.Prelude.{◌≡◌, ℕ, ◌+◌, ◌*◌, ◌<◌, ◌≤◌, ◌⊎◌, true, List, length, slice_index}
use Rattle.offer_model.specs.Assortments.{offers}
use Rattle.offer_model.specs.Chains.{ChainData, place_count, moved}
use Rattle.offer_model.specs.Stopping.{value_bound}
use Rattle.chain_values.specs.Sweeps.{RuleData}

-- Product i has the greatest value that there is, or no less than its base and, if it isn't held, than its moves with
-- what the rule adds.
abbrev pub LandsAt : ChainData → RuleData → (ℕ → ℕ) → ℕ → Type 0
LandsAt c r f i = (f i ≡ value_bound c)
    ⊎ ((slice_index r.base i ≤ f i) × ((offers r.held i ≡ true) ⊎ (moved c i f + r.round ≤ c.scale * f i)))

-- A vector from which sweeps may go on: since customers leave, no solution is above it.
pub record Lands (c : ChainData) (r : RuleData) (ws : List ℕ) : Type 0 where
  pub each : length ws ≡ place_count c
  pub small : (i : ℕ) → i < place_count c → slice_index ws i ≤ value_bound c
  pub lands : (i : ℕ) → i < place_count c → LandsAt c r (slice_index ws) i

-- Rules of sweeps, and vectors on their way down to the greatest one.
use Rattle.std.specs.Prelude.{◌≡◌, ℕ, ◌+◌, ◌-◌, ◌/◌, ◌<◌, ◌≤◌, ◌^◌, ◌==◌, max, Bool, false, cond, List, length, slice_index, sum, Vec}
use Rattle.std.specs.Global.{Global}
use Rattle.offer_model.specs.Assortments.{offers}
use Rattle.offer_model.specs.Chains.{ChainData, place_count, moved}
use Rattle.offer_model.specs.ChainValidity.{IsChain}
use Rattle.offer_model.specs.Stopping.{IsGreatest, value_bound, own_value}
use Rattle.chain_moves.specs.declared.rows.Move.{Move}
use Rattle.chain_moves.specs.Rows.{AreRows}

-- A rule has a base for each product, the products that stay at it, what it adds before a division, and the value
-- that no product exceeds.
pub record RuleData : Type 0 where
  pub base : List ℕ
  pub held : List Bool
  pub round : ℕ
  pub most : ℕ

-- A product's next value: its base where it is held, else the greater of its base and of a move.
abbrev pub next_value : ChainData → RuleData → (ℕ → ℕ) → ℕ → ℕ
next_value c r f i =
    cond (offers r.held i) (slice_index r.base i) (max (slice_index r.base i) ((moved c i f + r.round) / c.scale))

-- The rule is one for this chain.
pub record IsRule (c : ChainData) (r : RuleData) : Type 0 where
  pub base_each : length r.base ≡ place_count c
  pub held_each : length r.held ≡ place_count c
  pub base_small : (i : ℕ) → i < place_count c → slice_index r.base i ≤ value_bound c
  pub round_small : r.round < c.scale
  pub most : r.most ≡ value_bound c

-- What sweeps go by: a chain, its moves and a rule.
pub record IsReady (c : ChainData) (rows : List (Vec Move Global)) (r : RuleData) : Type 0 where
  pub chain : IsChain c
  pub moves : AreRows c rows
  pub rule : IsRule c r

-- n numbers, none above `most` and none above what the step makes of them.
pub record Rises (n most : ℕ) (step : (ℕ → ℕ) → ℕ → ℕ) (us : List ℕ) : Type 0 where
  pub each : length us ≡ n
  pub small : (i : ℕ) → i < n → slice_index us i ≤ most
  pub up : (i : ℕ) → i < n → slice_index us i ≤ step (slice_index us) i

-- No step raises it, and every vector that rises, as every solution does, is nowhere above it.
pub record Falls (n most : ℕ) (step : (ℕ → ℕ) → ℕ → ℕ) (us : List ℕ) : Type 0 where
  pub each : length us ≡ n
  pub small : (i : ℕ) → i < n → slice_index us i ≤ most
  pub down : (i : ℕ) → i < n → step (slice_index us) i ≤ slice_index us i
  pub above : (vs : List ℕ) → Rises n most step vs → (i : ℕ) → i < n → slice_index vs i ≤ slice_index us i

abbrev pub FallsBy : ChainData → RuleData → List ℕ → Type 0
FallsBy c r us = Falls (place_count c) (value_bound c) (next_value c r) us

abbrev pub IsGreatestBy : ChainData → RuleData → List ℕ → Type 0
IsGreatestBy c r us = IsGreatest (place_count c) (value_bound c) (next_value c r) us

-- A sweep that has come to product i: by how much the numbers fell from their sum at its start.
pub record Swept (n most : ℕ) (step : (ℕ → ℕ) → ℕ → ℕ) (i start fallen : ℕ) (us : List ℕ) : Type 0 where
  pub falls : Falls n most step us
  pub sums : sum us + fallen ≡ start
  pub still : fallen ≡ 0 → (k : ℕ) → k < i → step (slice_index us) k ≡ slice_index us k

-- The rule of the upper vector: no product is held, and moves are rounded up.
pub record IsUpperRule (c : ChainData) (r : RuleData) : Type 0 where
  pub base : (i : ℕ) → i < place_count c → slice_index r.base i ≡ own_value c i
  pub held : (i : ℕ) → i < place_count c → offers r.held i ≡ false
  pub round : r.round ≡ c.scale - 1

-- The rule of an assortment's lower vector: its products are held, and moves are rounded down.
pub record IsLowerRule (c : ChainData) (x : List Bool) (r : RuleData) : Type 0 where
  pub base : (i : ℕ) → i < place_count c → slice_index r.base i ≡ cond (offers x i) (own_value c i) 0
  pub held : r.held ≡ x
  pub round : r.round ≡ 0

-- The products whose own margin reaches their number.
pub record IsSet (c : ChainData) (us : List ℕ) (x : List Bool) : Type 0 where
  pub each : length x ≡ place_count c
  pub set : (i : ℕ) → i < place_count c → offers x i ≡ (slice_index us i == own_value c i)

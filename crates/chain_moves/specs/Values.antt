-- Values of products, in millionths of a margin unit. Own.
use Rattle.std.specs.Prelude.{◌≡◌, ℕ, ◌<◌, ◌≤◌, ◌^◌, List, length, slice_index}
use Rattle.offer_model.specs.Chains.{ChainData, place_count}
use Rattle.offer_model.specs.Stopping.{own_value}

-- No value is above the greatest margin that there can be.
abbrev pub AreSmall : List ℕ → Type 0
AreSmall us = (j : ℕ) → j < length us → slice_index us j ≤ 10 ^ 15

-- Each product's own margin.
pub record AreOwn (c : ChainData) (ms : List ℕ) : Type 0 where
  pub each : length ms ≡ place_count c
  pub value : (i : ℕ) → i < place_count c → slice_index ms i ≡ own_value c i

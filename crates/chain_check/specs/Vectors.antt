-- What a judge of a chain's certificates holds. Own.
use Rattle.std.specs.Prelude.{◌≡◌, ℕ, ◌*◌, ◌^◌, ◌<◌, ◌≤◌, Bool, true, false, List, length, slice_index, Vec}
use Rattle.std.specs.Global.{Global}
use Rattle.offer_model.specs.Assortments.{offers}
use Rattle.offer_model.specs.Chains.{ChainData, place_count, moved}
use Rattle.offer_model.specs.Moves.{gap_of}
use Rattle.offer_model.specs.Stopping.{own_value, value_bound}
use Rattle.chain_moves.specs.declared.rows.Move.{Move}
use Rattle.chain_moves.specs.Rows.{AreRows}
use Rattle.chain_moves.specs.Values.{AreOwn}

-- n numbers, none above `most`.
pub record AreMost (n most : ℕ) (us : List ℕ) : Type 0 where
  pub each : length us ≡ n
  pub small : (i : ℕ) → i < n → slice_index us i ≤ most

-- At product i neither its own margin nor a move brings more than its number.
pub record IsAboveAt (c : ChainData) (us : List ℕ) (i : ℕ) : Type 0 where
  pub margin : own_value c i ≤ slice_index us i
  pub moves : moved c i (slice_index us) ≤ c.scale * slice_index us i

-- At product i its own margin brings its number where it is offered, and else a move.
pub record IsBelowAt (c : ChainData) (x : List Bool) (hs : List ℕ) (i : ℕ) : Type 0 where
  pub margin : offers x i ≡ true → slice_index hs i ≤ own_value c i
  pub moves : offers x i ≡ false → c.scale * slice_index hs i ≤ moved c i (slice_index hs)

-- The moves, the margins, the greatest value and the gap are the chain's; the vector and the assortment have a place for each
-- product.
pub record IsJudge (c : ChainData) (rs : Vec (Vec Move Global) Global) (margins us : Vec ℕ Global) (x : List Bool) (greatest apart : ℕ) : Type 0 where
  pub rows : AreRows c rs.items
  pub own : AreOwn c margins.items
  pub values : length us.items ≡ place_count c
  pub set : length x ≡ place_count c
  pub most : greatest ≡ value_bound c
  pub small : greatest ≤ 10 ^ 15
  pub gap : apart ≡ gap_of c

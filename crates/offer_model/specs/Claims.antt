-- What a certificate claims. Of a problem, that its assortment is the best one (`IsBest`); of a chain, the fact below.
use Rattle.std.specs.Prelude.{ℕ, ◌+◌, ◌≤◌, Bool, List}
use Rattle.offer_model.specs.Chains.{ChainData}
use Rattle.offer_model.specs.Moves.{BringsAtMost, BringsAtLeast, gap_of}

-- The assortment brings at least `lo`, no assortment brings more than `up`, and the two are no more than the gap apart.
pub record IsBracketed (c : ChainData) (x : List Bool) (lo up : ℕ) : Type 0 where
  pub reached : BringsAtLeast c x lo
  pub none_exceeds : (y : List Bool) → BringsAtMost c y up
  pub ordered : lo ≤ up
  pub near : up ≤ lo + gap_of c

-- Worked values of chains, by computation.
use Rattle.std.specs.Prelude.{◌≡◌, ℕ, Bool, true, false, List, [], ◌∷◌, slice_index}
use Rattle.offer_model.specs.declared.arc.Arc.{Arc}
use Rattle.offer_model.specs.Chains.{ChainData, moved, arriving, customer_count, greatest_margin, least_leaving}
use Rattle.offer_model.specs.Moves.{earned_within, walking_after, gap_of}
use Rattle.offer_model.specs.Stopping.{upper_step, lower_step, quotient_up}
use Rattle.offer_model.specs.ChainValidity.{IsChain}

abbrev pub arc_of : ℕ → ℕ → ℕ → Arc
arc_of from to parts = record { from = from; to = to; parts = parts }

-- Margins 10, 0 and 0. All customers arrive at the second product; where they don't find it one in three moves to the
-- third, from there one in three to the first, and the others leave.
abbrev pub two_moves : ChainData
two_moves = record {
  scale = 3;
  away = 0;
  margins = 10 ∷ 0 ∷ 0 ∷ [];
  arrivals = 0 ∷ 1 ∷ 0 ∷ [];
  arcs = arc_of 1 2 1 ∷ arc_of 2 0 1 ∷ [];
}

abbrev pub upper_of_two_moves : List ℕ
upper_of_two_moves = 10000000 ∷ 1111112 ∷ 3333334 ∷ []

abbrev pub lower_of_two_moves : List ℕ
lower_of_two_moves = 10000000 ∷ 1111111 ∷ 3333333 ∷ []

abbrev pub first_of_three : List Bool
first_of_three = true ∷ false ∷ false ∷ []

-- One in nine gets to the first product: ten ninths in all, by whole millionths.
pub record ChainsAreWorked : Type 0 where
  pub valid : IsChain two_moves
  pub one_move : moved two_moves 2 (slice_index upper_of_two_moves) ≡ 10000000
  pub leaving : least_leaving two_moves ≡ 2
  pub gap : gap_of two_moves ≡ 3
  pub customers : customer_count two_moves ≡ 1
  pub margin : greatest_margin two_moves ≡ 10
  pub earned : earned_within two_moves first_of_three 2 1 ≡ 10
  pub walking : walking_after two_moves first_of_three 1 1 ≡ 1
  pub up : upper_step two_moves (slice_index upper_of_two_moves) 1 ≡ 1111112
  pub down : lower_step two_moves first_of_three (slice_index lower_of_two_moves) 2 ≡ 3333333
  pub upper : quotient_up (arriving two_moves (slice_index upper_of_two_moves)) 1 ≡ 1111112

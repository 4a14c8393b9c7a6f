-- Values of one seed that were worked by hand.
use Rattle.std.specs.Prelude.{◌≡◌, ℕ, true, [], ◌∷◌}
use Rattle.offer_model.specs.Problems.{SegmentData, first_segment, segment_at}
use Rattle.offer_model.specs.Revenue.{segment_value, value_of}
use Rattle.trial_inputs.specs.TrialInputs.{word_at, trial_margins, trial_segments, trial_problem}

abbrev pub worked_seed : ℕ
worked_seed = 1234567

-- A segment of the one product.
abbrev pub segment_of_one : ℕ → ℕ → ℕ → SegmentData
segment_of_one size none attraction = record { size = size; none = none; attract = attraction ∷ []; shadow = 0 ∷ [] }

-- The first words of the seed; with one product the margin and both segments; and what offering it brings: 400 * 7314 over 170
-- in the first, 200 * 6678 over 114 in the second, and both together.
pub record TrialIsWorked : Type 0 where
  pub word_0 : word_at worked_seed 0 ≡ 6457827717110365317
  pub word_1 : word_at worked_seed 1 ≡ 3203168211198807973
  pub word_2 : word_at worked_seed 2 ≡ 9817491932198370423
  pub word_3 : word_at worked_seed 3 ≡ 4593380528125082431
  pub word_4 : word_at worked_seed 4 ≡ 16408922859458223821
  pub margins : trial_margins worked_seed 1 ≡ 318 ∷ []
  pub segments : trial_segments worked_seed 1 ≡ segment_of_one 4 147 23 ∷ segment_of_one 2 93 21 ∷ []
  pub first : segment_value (trial_problem worked_seed 1) (first_segment (trial_problem worked_seed 1)) (true ∷ []) ≡ 17209
  pub second : segment_value (trial_problem worked_seed 1) (segment_at (trial_problem worked_seed 1) 1) (true ∷ []) ≡ 11715
  pub value : value_of (trial_problem worked_seed 1) (true ∷ []) ≡ 28924

-- The worked values, by computation.
use Rattle.std.proofs.Common.{refl}
use Rattle.trial_inputs.specs.TrialInputs.{state_at, word_at}
use Rattle.trial_inputs.specs.WorkedTrials.{TrialIsWorked}

-- Words, margins, segments and values of the worked seed.
pub trial_worked : TrialIsWorked
unfolding state_at word_at
trial_worked = record {
  word_0 = refl;
  word_1 = refl;
  word_2 = refl;
  word_3 = refl;
  word_4 = refl;
  margins = refl;
  segments = refl;
  first = refl;
  second = refl;
  value = refl;
}

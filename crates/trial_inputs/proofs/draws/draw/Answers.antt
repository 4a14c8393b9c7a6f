use Rattle.trial_inputs.proofs.WordLemmas.{drawn}
use Rattle.trial_inputs.proofs.draws.draw.Goals as goal

pub returns-clause-word : goal.returns-clause-word
returns-clause-word c = (drawn _ _ _ c.next_word.ensures).0

pub returns-clause-state : goal.returns-clause-state
returns-clause-state c = (drawn _ _ _ c.next_word.ensures).1

use Rattle.std.proofs.Common.{arith}
use Rattle.shared_best.proofs.StepLemmas.{room}
use Rattle.shared_best.proofs.CloseLemmas.{claimed_once, done_past, whole_alone}
use Rattle.shared_best.proofs.laws.desk_states_are_sound.Goals as goal

pub returns-clause-once : goal.returns-clause-once
returns-clause-once c = claimed_once

pub returns-clause-room : goal.returns-clause-room
returns-clause-room c = λ tasks n b views d. let l = room tasks n b views d in omega arith

pub returns-clause-done : goal.returns-clause-done
returns-clause-done c = done_past

pub returns-clause-alone : goal.returns-clause-alone
returns-clause-alone c = whole_alone

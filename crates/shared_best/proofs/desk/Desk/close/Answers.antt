use Rattle.std.proofs.Common.{rules}
use Rattle.shared_best.proofs.CloseLemmas.{closed_claims}
use Rattle.shared_best.proofs.desk.Desk.close.Goals as goal

pub returns-clause-claims : goal.returns-clause-claims
returns-clause-claims c = rw (← c.place.view_is) (closed_claims _ _ _ _ _ _ _ c.close_with-closed.ensures.values.2 (search rules) c.word.ensures c.word-2.ensures).0

pub returns-clause-told : goal.returns-clause-told
returns-clause-told c = rw (← c.place.view_is) (closed_claims _ _ _ _ _ _ _ c.close_with-closed.ensures.values.2 (search rules) c.word.ensures c.word-2.ensures).1

pub returns-clause-seen : goal.returns-clause-seen
returns-clause-seen c = rw (← c.place.view_is) (closed_claims _ _ _ _ _ _ _ c.close_with-closed.ensures.values.2 (search rules) c.word.ensures c.word-2.ensures).2

use Rattle.std.proofs.Common.{None, refl}
use Rattle.offer_io.proofs.HeldLemmas.{held_put}
use Rattle.offer_io.proofs.PutLemmas.{view_put}
use Rattle.offer_io.proofs.ready.ReadyStore.put.Goals as goal

pub returns-clause-ok : goal.returns-clause-ok
returns-clause-ok c =
    let put = rw c.as_bytes.ensures.value at c.in_ok-put_file.ensures.ok in
    record { held = held_put _ _ _ _ put; rest = refl }

pub returns-clause-shelf : goal.returns-clause-shelf
returns-clause-shelf c =
    let put = rw c.as_bytes.ensures.value at c.in_ok-put_file.ensures.ok in
    view_put _ _ _ None _ _ _ _ put c.put_file.ensures.places (λ i e. absurd (cc e))

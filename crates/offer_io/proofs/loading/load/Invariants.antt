use Rattle.std.proofs.Common.{◌-◌, length}
use Rattle.offer_io.proofs.LoadLemmas.{IsLoading}
use Rattle.offer_io.proofs.loading.load.Given as goal

abbrev pub invariant-pieces : goal.invariant-pieces
invariant-pieces g l =
    IsLoading (g.S.Store.view l.fn.store) l.name l.most l.bytes.items (g.S.Store.view l.store)

abbrev pub decreases-pieces : goal.decreases-pieces
decreases-pieces g l = l.most - length l.bytes.items

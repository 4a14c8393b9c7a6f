use Rattle.std.proofs.Common.{length}
use Rattle.offer_io.proofs.WriteLemmas.{IsWriting}
use Rattle.offer_io.proofs.host.write_whole.Given as goal

abbrev pub invariant-writes : goal.invariant-writes
invariant-writes g l =
    IsWriting (g.W.Write.contents l.fn.to) l.piece l.rest (g.W.Write.contents l.to)

abbrev pub decreases-writes : goal.decreases-writes
decreases-writes g l = length l.rest

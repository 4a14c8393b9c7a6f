use Rattle.offer_io.proofs.WriteLemmas.{goes_on}
use Rattle.offer_io.proofs.host.write_whole.Goals as goal

pub writes-preserved : goal.writes-preserved
writes-preserved g c =
    goes_on (g.W.Write.contents c.args.to.now) (g.W.Write.contents c.writes.to) (g.W.Write.contents c.write.new.self) c.args.piece.now c.writes.rest.now c.in-Ok.count c.writes.invariant c.in-Ok.ensures.bytes

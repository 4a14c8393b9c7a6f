use Rattle.std.proofs.Common.{refl, inr}
use Rattle.chain_moves.proofs.rows.put.Goals as goal

pub returns : goal.returns
returns c = inr (c.index_mut-row.result.now, c.push.new.self, c.index_mut-row.ensures.value, c.in_ok-push.ensures.items, refl)

use Rattle.std.proofs.Common.{refl}
use Rattle.offer_io.proofs.EntryLemmas.{grown}
use Rattle.offer_io.proofs.entries.write_at.Goals as goal

pub returns : goal.returns
returns c = grown _ _ c.index_mut.result.now _ _ c.requires c.index_mut.ensures.value refl refl

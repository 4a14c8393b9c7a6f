use Rattle.std.proofs.Common.{◌≡◌, false, Some, rules}
use Rattle.std.specs.List.{position}
use Rattle.offer_io.specs.Entries.{is_named, content_of, content_at}
use Rattle.offer_io.specs.Plans.{fails_next}
use Rattle.offer_io.proofs.CallLemmas.{opens_well}
use Rattle.offer_io.proofs.EntryLemmas.{opened}
use Rattle.offer_io.proofs.memory.MemoryStoreStore.open.Goals as goal

pub returns-in-Some-clause-fails : goal.returns-in-Some-clause-fails
returns-in-Some-clause-fails c =
    let files = c.args.self.now.files.items in
    let at : position (is_named c.args.name.now) files ≡ Some c.in-Some.place = search rules in
    let spared : fails_next c.args.self.now.plan ≡ false = search rules in
    (λ err. cc, λ either. absurd (opens_well (fails_next c.args.self.now.plan) (content_of files c.args.name.now) (content_at files c.in-Some.place) spared (opened files c.args.name.now c.in-Some.place at) either))

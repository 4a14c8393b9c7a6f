use Rattle.offer_io.proofs.PutLemmas.{view_put, places_kept}
use Rattle.offer_io.proofs.memory.MemoryStore.put.Goals as goal

pub invariant_of-self : goal.invariant_of-self
invariant_of-self c =
    let p = places_kept _ _ c.args.self.now.input c.args.self.now.output c.put_file.ensures.places c.args.self.now.input_there c.args.self.now.output_there in
    record { most_is_some = c.args.self.now.most_is_some; input_there = p.0; output_there = p.1 }

pub returns-clause-ok : goal.returns-clause-ok
returns-clause-ok c =
    let put = rw c.as_bytes.ensures.value at c.in_ok-put_file.ensures.ok in
    view_put _ _ _ _ _ _ _ _ put c.put_file.ensures.places c.args.self.now.output_there

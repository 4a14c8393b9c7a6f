use Rattle.std.proofs.Common.{◌≡◌, rules, Some, None, true, length}
use Rattle.std.specs.List.{position}
use Rattle.std.specs.Result.{is_ok}
use Rattle.offer_io.specs.Entries.{is_named}
use Rattle.offer_io.proofs.EntryLemmas.{found, absent}
use Rattle.offer_io.proofs.CallLemmas.{create_empties, create_adds, places_stay, places_after_adding, of_ok}
use Rattle.offer_io.proofs.memory.MemoryStoreStore.create.Goals as goal

pub returns-in-Some-clause-creates : goal.returns-in-Some-clause-creates
returns-in-Some-clause-creates c =
    let at : position (is_named c.args.name.now) c.args.self.now.files.items ≡ Some c.in-Some.place = search rules in
    let f = found c.args.self.now.files.items c.args.name.now c.in-Some.place at in
    create_empties _ _ _ _ _ c.in-Some.place _ _ _ f.0 f.1 c.empty_at.ensures

pub invariant_of-self-in-Some : goal.invariant_of-self-in-Some
invariant_of-self-in-Some c =
    let at : position (is_named c.args.name.now) c.args.self.now.files.items ≡ Some c.in-Some.place = search rules in
    let f = found c.args.self.now.files.items c.args.name.now c.in-Some.place at in
    let p = places_stay _ _ c.args.self.now.input (Some c.in-Some.place) c.in-Some.place _ (λ i. Some c.in-Some.place) f.1 c.empty_at.ensures c.args.self.now.input_there in
    record { most_is_some = c.args.self.now.most_is_some; input_there = p.0; output_there = p.1 }

pub returns-else-is_err-clause-creates : goal.returns-else-is_err-clause-creates
returns-else-is_err-clause-creates c =
    let at : position (is_named c.args.name.now) c.args.self.now.files.items ≡ None = search rules in
    let none = absent c.args.self.now.files.items c.args.name.now at in
    let good : is_ok c.add_file.result ≡ true = search rules in
    let added = rw (c.as_bytes-in-None.ensures.value, c.new-empty.ensures.items) at (of_ok c.add_file.result _ good c.add_file.ensures.ok) in
    let long : c.len-place.result ≡ length c.args.self.now.files.items = search rules in
    rw long (create_adds _ _ _ _ _ _ _ _ none added)

pub invariant_of-self-in-None : goal.invariant_of-self-in-None
invariant_of-self-in-None c =
    let at : position (is_named c.args.name.now) c.args.self.now.files.items ≡ None = search rules in
    let none = absent c.args.self.now.files.items c.args.name.now at in
    let good : is_ok c.add_file.result ≡ true = search rules in
    let added = rw (c.as_bytes-in-None.ensures.value, c.new-empty.ensures.items) at (of_ok c.add_file.result _ good c.add_file.ensures.ok) in
    let long : c.len-place.result ≡ length c.args.self.now.files.items = search rules in
    let p = places_after_adding _ _ _ c.args.self.now.input none added c.args.self.now.input_there in
    rw long (record { most_is_some = c.args.self.now.most_is_some; input_there = p.0; output_there = p.1 })

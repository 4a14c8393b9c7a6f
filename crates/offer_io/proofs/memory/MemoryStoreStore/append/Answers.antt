use Rattle.std.proofs.Common.{◌≡◌, rules, true, false}
use Rattle.std.specs.Result.{is_ok}
use Rattle.offer_io.proofs.CallLemmas.{append_stays, append_grows, append_fails, places_stay}
use Rattle.offer_io.proofs.memory.MemoryStoreStore.append.Goals as goal

pub returns-then-fails_now-clause-appends : goal.returns-then-fails_now-clause-appends
returns-then-fails_now-clause-appends c =
    append_stays _ _ _ _ c.in-Some.place _ _ _ _ c.in-Some.is (c.args.self.now.output_there c.in-Some.place c.in-Some.is) (search rules) (search rules)

pub invariant_of-self-then-is_err : goal.invariant_of-self-then-is_err
invariant_of-self-then-is_err c =
    let p = places_stay _ _ c.args.self.now.input _ c.in-Some.place _ c.in-Some.is (c.args.self.now.output_there c.in-Some.place c.in-Some.is) c.grow_at.ensures c.args.self.now.input_there in
    record { most_is_some = c.args.self.now.most_is_some; input_there = p.0; output_there = p.1 }

pub invariant_of-self-else-is_err : goal.invariant_of-self-else-is_err
invariant_of-self-else-is_err c =
    let p = places_stay _ _ c.args.self.now.input _ c.in-Some.place _ c.in-Some.is (c.args.self.now.output_there c.in-Some.place c.in-Some.is) c.grow_at.ensures c.args.self.now.input_there in
    record { most_is_some = c.args.self.now.most_is_some; input_there = p.0; output_there = p.1 }

pub returns-then-is_err-clause-appends : goal.returns-then-is_err-clause-appends
returns-then-is_err-clause-appends c =
    let bad : is_ok c.grow_at.result ≡ false = search rules in
    append_fails _ _ _ _ _ c.in-Some.place _ _ _ _ c.in-Some.is (c.args.self.now.output_there c.in-Some.place c.in-Some.is) (rw bad at c.grow_at.ensures) (search rules) (search rules)

pub returns-clause-appends : goal.returns-clause-appends
returns-clause-appends c =
    let good : is_ok c.grow_at.result ≡ true = search rules in
    append_grows _ _ _ _ _ c.in-Some.place _ _ _ c.in-Some.is (c.args.self.now.output_there c.in-Some.place c.in-Some.is) (rw good at c.grow_at.ensures)

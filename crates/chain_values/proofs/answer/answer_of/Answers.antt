use Rattle.std.proofs.Common.{arith}
use Rattle.chain_moves.proofs.ValueLemmas.{value_bound-small}
use Rattle.chain_values.proofs.answer.answer_of.Goals as goal

pub returns : goal.returns
returns c = record {
  upper = rw c.in_ok-uppers.ensures c.requires.upper;
  set_each = c.requires.set.each;
  set = rw c.in_ok-uppers.ensures c.requires.set.set;
  lower = rw c.in_ok-lowers.ensures c.requires.lower;
  lo = rw c.in_ok-lowers.ensures c.lo_of-lo.ensures;
  up = rw c.in_ok-uppers.ensures c.up_of-up.ensures;
}

pub up_of-up-requires-clause-small : goal.up_of-up-requires-clause-small
up_of-up-requires-clause-small c = λ j l.
    let most = value_bound-small c.args.chain.now c.requires.chain in
    let small = c.requires.upper.solves.small j (omega (arith, c.requires.upper.solves.each)) in
    omega arith

pub lo_of-lo-requires-clause-small : goal.lo_of-lo-requires-clause-small
lo_of-lo-requires-clause-small c = λ j l.
    let most = value_bound-small c.args.chain.now c.requires.chain in
    let small = c.requires.lower.solves.small j (omega (arith, c.requires.lower.solves.each)) in
    omega arith

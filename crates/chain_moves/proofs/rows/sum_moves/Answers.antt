use Rattle.std.proofs.Common.{length, arith, slice_index}
use Rattle.chain_moves.proofs.RowSumLemmas.{so_far, moves_most}
use Rattle.chain_moves.proofs.rows.sum_moves.Goals as goal

pub overflow_mul-sum : goal.overflow_mul-sum
overflow_mul-sum c =
    let fits = so_far c.args.row.now (length c.args.values.now) c.loop-m.m-index c.loop-m.sum (record { to = 0; parts = 0 }) (slice_index c.args.values.now)
    c.requires.ends c.requires.small c.requires.parts c.loop-m.invariant c.loop-m-test.true in
    omega arith

pub overflow_add-sum : goal.overflow_add-sum
overflow_add-sum c =
    let fits = so_far c.args.row.now (length c.args.values.now) c.loop-m.m-index c.loop-m.sum (record { to = 0; parts = 0 }) (slice_index c.args.values.now)
    c.requires.ends c.requires.small c.requires.parts c.loop-m.invariant c.loop-m-test.true in
    omega arith

pub returns-clause-range : goal.returns-clause-range
returns-clause-range c =
    let total = moves_most c.args.row.now (length c.args.values.now) 1000000000000000 (slice_index c.args.values.now) c.requires.ends c.requires.small in
    let parts = c.requires.parts in
    omega arith

use Rattle.std.proofs.Common.{arith, rules}
use Rattle.proof_write.proofs.LineLemmas.{units_is_line, value_numbers_mixed}
use Rattle.proof_write.proofs.header.units_line.Goals as goal

pub returns : goal.returns
returns c =
    let v = c.mixed_value.ensures in
    let e = value_numbers_mixed c.args.p.now c.args.x.now c.requires.model in
    record {
      is = rw (e, ← v.value) (search rules);
      grammar = rw (e, ← v.value) (units_is_line c.mixed_value.result v.bound);
      short = rw e (omega arith);
    }

use Rattle.std.proofs.Common.{arith, rules}
use Rattle.proof_write.proofs.LineLemmas.{ratio_is_line}
use Rattle.proof_write.proofs.header.ratio_line.Goals as goal

pub returns : goal.returns
returns c =
    let e = c.earned_by-earned.ensures in
    record {
      is = rw e.value (search rules);
      grammar = rw e.value (ratio_is_line c.earned_by-earned.result.num c.earned_by-earned.result.den e.num e.den.1);
      short = rw e.value (omega arith);
    }

use Rattle.proof_lines.proofs.ReadLemmas.{branch_reads}
use Rattle.proof_lines.proofs.read.read_branch.Goals as goal

pub returns-clause-reads : goal.returns-clause-reads
returns-clause-reads c =
    let list = c.if-not-read_list.ensures.reads in
    branch_reads c.args.bytes.now c.read_list.new.numbers.items c.len.result list.0 list.1 c.len.ensures

use Rattle.std.proofs.Common.{arith, ◌∙◌}
use Rattle.std.proofs.lemmas.Fmt.{decimal_digit}
use Rattle.proof_lines.proofs.NumberLemmas.{decimal_last, length-decimal_step, length-decimal_digit}
use Rattle.proof_lines.proofs.numbers.+push_number.Goals as goal

pub push-requires : goal.push-requires
push-requires t c = let l = length-decimal_digit c.args.number c.if-number-lt10.true in omega arith

pub returns-then-number-lt10-clause-items : goal.returns-then-number-lt10-clause-items
returns-then-number-lt10-clause-items t c = rw (decimal_digit c.args.number c.if-number-lt10.true) c.push.ensures.items

pub returns-then-number-lt10-clause-spare : goal.returns-then-number-lt10-clause-spare
returns-then-number-lt10-clause-spare t c = let l = length-decimal_digit c.args.number c.if-number-lt10.true in omega arith

pub push_number-requires : goal.push_number-requires
push_number-requires t c =
    let l = length-decimal_step c.args.number c.if-number-lt10.false (omega arith) in
    (omega arith, omega arith)

pub push-requires-else-number-lt10 : goal.push-requires-else-number-lt10
push-requires-else-number-lt10 t c =
    let l = length-decimal_step c.args.number c.if-number-lt10.false (omega arith) in omega arith

pub returns-else-number-lt10-clause-items : goal.returns-else-number-lt10-clause-items
returns-else-number-lt10-clause-items t c =
    c.push-else-number-lt10.ensures.items ∙ rw c.push_number.ensures.items (decimal_last c.args.number c.if-number-lt10.false (omega arith) c.args.out.now.items)

pub returns-else-number-lt10-clause-spare : goal.returns-else-number-lt10-clause-spare
returns-else-number-lt10-clause-spare t c =
    let l = length-decimal_step c.args.number c.if-number-lt10.false (omega arith) in omega arith

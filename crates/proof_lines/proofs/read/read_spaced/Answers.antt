use Rattle.std.proofs.Common.{◌≤◌, length-append, [], ◌∷◌, arith}
use Rattle.proof_lines.specs.Lines.{most_number}
use Rattle.proof_lines.proofs.ReadLemmas.{AllByRecursion-push, no_space, no_field, StandsAt, field_inside, spaced_read, left_more}
use Rattle.proof_lines.proofs.read.read_spaced.Goals as goal

pub returns-then-bytes-at-ne32-clause-reads : goal.returns-then-bytes-at-ne32-clause-reads
returns-then-bytes-at-ne32-clause-reads c = λ ms a e.
    let left = c.loop-at.invariant.left ms a e in
    no_space left.0 c.args.bytes.now c.loop-at.at c.loop-at-test.true c.if-bytes-at-ne32.true left.2

pub returns-in_default-clause-reads : goal.returns-in_default-clause-reads
returns-in_default-clause-reads c = λ ms a e.
    let left = c.loop-at.invariant.left ms a e in
    no_field left.0 c.args.bytes.now c.loop-at.at c.loop-at-test.true c.in_default.ensures left.1 left.2

pub loop-at-preserved : goal.loop-at-preserved
loop-at-preserved c =
    let at : StandsAt c.args.bytes.now c.loop-at.at c.in-Some.field.number c.in-Some.field.len = record {
      inside = c.loop-at-test.true;
      space = c.if-bytes-at-ne32.false;
      number = c.in-Some.ensures;
    } in
    let longer = length-append c.loop-at.numbers.items (c.in-Some.field.number ∷ []) in
    rw c.push.ensures.items (record {
      inside = field_inside c.args.bytes.now c.loop-at.at c.in-Some.field.number c.in-Some.field.len at;
      numbers = AllByRecursion-push (λ n. n ≤ most_number) c.loop-at.numbers.items c.in-Some.field.number c.loop-at.invariant.numbers c.in-Some.ensures.small;
      text = spaced_read c.args.bytes.now c.loop-at.numbers.items c.loop-at.at c.in-Some.field.number c.in-Some.field.len at c.loop-at.invariant.text;
      left = λ ns a e. left_more c.args.bytes.now c.loop-at.at c.in-Some.field.number c.in-Some.field.len at (c.loop-at.invariant.left ns a e);
      room = omega (arith, longer, c.loop-at.invariant.room);
      few = omega (arith, longer, c.loop-at.invariant.few);
    })

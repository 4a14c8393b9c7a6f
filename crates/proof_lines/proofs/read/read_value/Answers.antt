use Rattle.std.proofs.Common.{◌<◌, ◌+◌, length, length-drop, get_or, drop, arith, sym}
use Rattle.proof_lines.proofs.ValueLemmas.{value_begins, tail_is, follows, no_form, second_is, no_second, second_whole, reads_whole, reads_two}
use Rattle.proof_lines.proofs.read.read_value.Goals as goal

pub returns-in_default-clause-reads : goal.returns-in_default-clause-reads
returns-in_default-clause-reads c = λ ms v e.
    let b = value_begins ms c.args.bytes.now v e in
    c.in_default.ensures b.first b.tail b.small b.past b.is

pub returns-then-first-bytes-clause-reads : goal.returns-then-first-bytes-clause-reads
returns-then-first-bytes-clause-reads c =
    rw (c.push-then-first-bytes.ensures.items, c.push.ensures.items, c.requires.none)
    (reads_whole c.args.bytes.now c.in-Some.first.number c.in-Some.first.len c.in-Some.ensures c.if-first-bytes.true)

pub returns-in_default-form_of-clause-reads : goal.returns-in_default-form_of-clause-reads
returns-in_default-form_of-clause-reads c = λ ms v e.
    let fits = c.in-Some.ensures.fits in
    let inside : c.in-Some.first.len < length c.args.bytes.now = omega arith in
    no_form (get_or c.args.bytes.now c.in-Some.first.len 0) (drop (c.in-Some.first.len + 1) c.args.bytes.now) (sym c.in_default-form_of.ensures)
    (follows c.args.bytes.now c.in-Some.first.len inside (tail_is c.args.bytes.now c.in-Some.first.number c.in-Some.first.len c.in-Some.ensures (value_begins ms c.args.bytes.now v e)))

pub returns-in_default-read_field-clause-reads : goal.returns-in_default-read_field-clause-reads
returns-in_default-read_field-clause-reads c = λ ms v e.
    let fits = c.in-Some.ensures.fits in
    let inside : c.in-Some.first.len < length c.args.bytes.now = omega arith in
    no_second (drop (c.in-Some.first.len + 1) c.args.bytes.now) c.in_default-read_field.ensures
    (second_is (get_or c.args.bytes.now c.in-Some.first.len 0) (drop (c.in-Some.first.len + 1) c.args.bytes.now)
    (follows c.args.bytes.now c.in-Some.first.len inside (tail_is c.args.bytes.now c.in-Some.first.number c.in-Some.first.len c.in-Some.ensures (value_begins ms c.args.bytes.now v e))))

pub returns-then-first-second-clause-reads : goal.returns-then-first-second-clause-reads
returns-then-first-second-clause-reads c = λ ms v e.
    let fits = c.in-Some.ensures.fits in
    let inside : c.in-Some.first.len < length c.args.bytes.now = omega arith in
    let all = second_whole (drop (c.in-Some.first.len + 1) c.args.bytes.now) c.in-Some-read_field.second.number c.in-Some-read_field.second.len c.in-Some-read_field.ensures
    (second_is (get_or c.args.bytes.now c.in-Some.first.len 0) (drop (c.in-Some.first.len + 1) c.args.bytes.now)
    (follows c.args.bytes.now c.in-Some.first.len inside (tail_is c.args.bytes.now c.in-Some.first.number c.in-Some.first.len c.in-Some.ensures (value_begins ms c.args.bytes.now v e)))) in
    c.if-first-second.true (omega (arith, length-drop (c.in-Some.first.len + 1) c.args.bytes.now))

pub returns-clause-reads : goal.returns-clause-reads
returns-clause-reads c =
    let fits = c.in-Some.ensures.fits in
    let inside : c.in-Some.first.len < length c.args.bytes.now = omega arith in
    rw (c.push-4.ensures.items, c.push-3.ensures.items, c.push-2.ensures.items, c.requires.none)
    (reads_two c.args.bytes.now c.in-Some.first.number c.in-Some.first.len c.in-Some-read_field.second.number c.in-Some-read_field.second.len c.in-Some-form_of.form
    c.in-Some.ensures inside (sym c.in-Some-form_of.ensures) c.in-Some-read_field.ensures c.if-first-second.false)

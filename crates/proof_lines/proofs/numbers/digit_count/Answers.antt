use Rattle.std.proofs.Common.{add-one, sym, ◌∙◌}
use Rattle.proof_lines.proofs.NumberLemmas.{AllDigits-take}
use Rattle.proof_lines.proofs.numbers.digit_count.Goals as goal

pub loop-i-preserved : goal.loop-i-preserved
loop-i-preserved c =
    let digit = sym c.is_ascii_digit.ensures.value ∙ c.if-not-is_ascii_digit.false in
    rw add-one (AllDigits-take c.args.bytes.now c.loop-i.i c.loop-i-test.true c.loop-i.invariant digit)

use Rattle.std.proofs.Common.{◌-◌, length, get_or, arith}
use Rattle.std.proofs.lemmas.Str.Parse.{digit_at}
use Rattle.offer_model.proofs.DigitLemmas.{digit_more, digit_bound}
use Rattle.proof_lines.proofs.NumberLemmas.{digit_fits}
use Rattle.proof_lines.proofs.numbers.value_of_digits.Goals as goal

pub with_digit-value-requires : goal.with_digit-value-requires
with_digit-value-requires c = record {
  value = digit_fits c.loop-digit.digit-index (length c.args.digits.now) c.loop-digit.value c.loop-digit.invariant.small c.loop-digit-test.true c.requires.few;
  digit = digit_at c.args.digits.now c.loop-digit.digit-index c.requires.digits c.loop-digit-test.true;
}

pub loop-digit-preserved : goal.loop-digit-preserved
loop-digit-preserved c =
    let digit = digit_at c.args.digits.now c.loop-digit.digit-index c.requires.digits c.loop-digit-test.true in
    rw c.with_digit-value.ensures (record {
      value = digit_more c.args.digits.now c.loop-digit.digit-index c.loop-digit.value c.loop-digit-test.true digit c.loop-digit.invariant.value;
      small = digit_bound c.loop-digit.digit-index c.loop-digit.value (get_or c.args.digits.now c.loop-digit.digit-index 0 - 48) c.loop-digit.invariant.small (omega (arith, digit.0, digit.1));
    })

use Rattle.std.proofs.Common.{◌∙◌, arith, ◌<◌, length}
use Rattle.std.proofs.lemmas.List.Folds.{list_all_more}
use Rattle.std.specs.Char.{is_ascii_digit}
use Rattle.offer_model.proofs.DigitLemmas.{digit_more, digit_bound}
use Rattle.offer_model.proofs.numerals.read_number.Goals as goal

pub loop-digit-preserved : goal.loop-digit-preserved
loop-digit-preserved c =
    let inv = c.loop-digit.invariant in
    let digit = c.if-not-is_ascii_digit.ensures in
    let inside : c.loop-digit.digit-index < length c.args.text.now = omega arith in
    record {
      digits = list_all_more is_ascii_digit c.args.text.now c.loop-digit.digit-index 0 inside ∙ rw (inv.digits, ← digit.value);
      value = rw c.from.ensures (digit_more c.args.text.now c.loop-digit.digit-index c.loop-digit.value inside digit.cases inv.value);
      small = digit_bound c.loop-digit.digit-index c.loop-digit.value c.from.result inv.small (omega (arith, digit.cases));
    }

use Rattle.std.proofs.Common.{◌<◌, ⊎_elim, length, arith}
use Rattle.std.proofs.lemmas.Bool.Decides.{nat_tests}
use Rattle.proof_lines.proofs.NumberLemmas.{decimal-digits_value, no_digits, too_many, leading_zero, too_great}
use Rattle.proof_lines.proofs.numbers.number_of_digits.Goals as goal

pub returns-then-is_empty-clause-none : goal.returns-then-is_empty-clause-none
returns-then-is_empty-clause-none c = λ n l e. ⊎_elim
    (λ h. no_digits n c.args.digits.now l (grind (arith, nat_tests, c.is_empty.ensures, h)) e)
    (λ h. too_many n c.args.digits.now l h.1 e)
    c.then-is_empty.either

pub returns-then-digits-gt1-clause-none : goal.returns-then-digits-gt1-clause-none
returns-then-digits-gt1-clause-none c = λ n l e. leading_zero n c.args.digits.now l c.if-digits-eq48.true c.if-digits-gt1.true e

pub returns-then-value-gt-MOST_NUMBER-clause-none : goal.returns-then-value-gt-MOST_NUMBER-clause-none
returns-then-value-gt-MOST_NUMBER-clause-none c = λ n l e. too_great n c.args.digits.now l (omega (arith, c.value_of_digits-value.ensures)) e

pub returns-clause-some : goal.returns-clause-some
returns-clause-some c =
    let some : 0 < length c.args.digits.now = grind (arith, nat_tests, c.is_empty.ensures, c.if-is_empty.false) in (
      omega arith,
      rw c.value_of_digits-value.ensures
          (decimal-digits_value c.args.digits.now c.requires some (omega arith) (λ h. ⊎_elim (λ k. k.1) (λ k. absurd (k h)) c.else-digits-eq48.either)),
    )

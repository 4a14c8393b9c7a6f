use Rattle.proof_lines.proofs.NumberLemmas.{field_front}
use Rattle.proof_lines.proofs.numbers.read_front.Goals as goal

pub returns-in-None : goal.returns-in-None
returns-in-None c = λ n rest l past e.
    c.in-None.ensures.none n l (field_front n rest c.digit_count-len.result c.args.bytes.now l past c.digit_count-len.ensures.digits c.digit_count-len.ensures.past e)

use Rattle.std.proofs.Common.{◌∙◌, ap, Err}
use Rattle.std.proofs.lemmas.Result.{err_from_is_err_and}
use Rattle.proof_write.proofs.WrittenLemmas.{puts_whole, puts_part}
use Rattle.chain_write.proofs.write.put_lines.Goals as goal

pub returns-in_err-pen-clause-puts : goal.returns-in_err-pen-clause-puts
returns-in_err-pen-clause-puts g c = λ fine. let p = err_from_is_err_and c.from_residual.result c.from_residual.ensures.1 in absurd (fine (p.1 ∙ ap Err p.2))

pub returns-in-Ok-clause-puts : goal.returns-in-Ok-clause-puts
returns-in-Ok-clause-puts g c = λ fine. puts_whole _ _ _ _ c.in-Ok.ensures

pub returns-clause-puts : goal.returns-clause-puts
returns-clause-puts g c = λ fine. puts_part _ _ _ _ _ c.in-Err.ensures

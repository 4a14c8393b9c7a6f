use Rattle.chain_write.proofs.LineLemmas.{stopping_accepted}
use Rattle.chain_write.proofs.lines.lines_of.Goals as goal

pub returns-clause-accepted : goal.returns-clause-accepted
returns-clause-accepted c =
    stopping_accepted c.args.chain.now c.args.answer.now c.margins.ensures.valid c.requires (rw (← c.answer.view_is) c.in_ok-bounds_line.ensures.grammar)

use Rattle.std.proofs.Common.{◌∙◌, sym}
use Rattle.assort_words.proofs.PairLemmas.{at_end}
use Rattle.assort_words.proofs.words.read_words.Goals as goal

pub returns-in-Ok-clause-value : goal.returns-in-Ok-clause-value
returns-in-Ok-clause-value c =
    c.completed.ensures.value ∙ sym (at_end c.args.words.now c.get.result.now c.in-Some.command c.in-Ok.request c.get.ensures (sym c.read_command.ensures ∙ c.in-Some.is)
    (sym c.with_pairs.ensures ∙ c.in-Ok.is))

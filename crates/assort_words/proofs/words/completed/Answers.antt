use Rattle.std.proofs.Common.{◌∙◌, sym}
use Rattle.assort_words.proofs.WordLemmas.{has_all}
use Rattle.assort_words.proofs.words.completed.Goals as goal

pub returns-clause-complete : goal.returns-clause-complete
returns-clause-complete c = has_all c.args.request c.model.ensures.valid (sym c.missing_key.ensures ∙ c.in_default.is) (sym c.unused_key.ensures ∙ c.in_default-unused_key.is)

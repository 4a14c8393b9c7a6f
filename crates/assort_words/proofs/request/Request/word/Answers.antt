use Rattle.std.proofs.Common.{sym}
use Rattle.assort_words.proofs.WordLemmas.{word_read}
use Rattle.assort_words.proofs.request.Request.word.Goals as goal

pub returns-clause-value : goal.returns-clause-value
returns-clause-value c = word_read c.args.self.now c.self.inside.command c.self.inside.words c.index.result c.args.key c.index.ensures (sym c.self.view_is)

use Rattle.std.proofs.Common.{sym, subst}
use Rattle.assort_words.specs.Asked.{IsInDomains}
use Rattle.assort_words.proofs.WordLemmas.{word_set, domains_kept}
use Rattle.assort_words.proofs.request.Request.with_word.Goals as goal

pub invariant_of-self : goal.invariant_of-self
invariant_of-self c =
    subst IsInDomains (sym (word_set c.args.self c.self.inside.command c.self.inside.words c.index.result c.args.key c.args.word c.index.ensures (sym c.self.view_is)))
    (domains_kept c.args.self c.args.key c.args.word.now (subst IsInDomains c.self.view_is c.self.invariant) c.requires)

pub returns : goal.returns
returns c = word_set c.args.self c.self.inside.command c.self.inside.words c.index.result c.args.key c.args.word c.index.ensures (sym c.self.view_is)

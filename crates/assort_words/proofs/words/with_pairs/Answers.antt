use Rattle.std.proofs.Common.{◌∙◌, refl, sym, arith}
use Rattle.assort_words.proofs.PairLemmas.{at_bad_key, at_last_key, at_bad_value, at_pair}
use Rattle.assort_words.proofs.words.with_pairs.Goals as goal

pub pairs-init : goal.pairs-init
pairs-init c = record { inside = omega (arith, c.requires); rest = rw c.bare-request.ensures refl }

pub returns-in-Err : goal.returns-in-Err
returns-in-Err c =
    sym (at_bad_key c.pairs.request c.args.words.now c.pairs.at c.get.result.now c.in-Err.fault (omega arith) c.get.ensures (sym c.new_key.ensures ∙ c.in-Err.is))
    ∙ c.pairs.invariant.rest

pub returns-then-at-len : goal.returns-then-at-len
returns-then-at-len c =
    rw c.refused_at.ensures (sym (at_last_key c.pairs.request c.args.words.now c.pairs.at c.get.result.now c.in-Ok.key (omega arith) c.get.ensures (sym c.new_key.ensures ∙ c.in-Ok.is))
    ∙ c.pairs.invariant.rest)

pub returns-in-Err-new_word : goal.returns-in-Err-new_word
returns-in-Err-new_word c =
    sym (at_bad_value c.pairs.request c.args.words.now c.pairs.at c.get.result.now c.get-in-pairs.result.now c.in-Ok.key c.in-Err-new_word.fault (omega arith)
    c.get.ensures c.get-in-pairs.ensures (sym c.new_key.ensures ∙ c.in-Ok.is) (sym c.new_word.ensures ∙ c.in-Err-new_word.is))
    ∙ c.pairs.invariant.rest

pub pairs-preserved : goal.pairs-preserved
pairs-preserved c = record {
  inside = omega arith;
  rest = at_pair c.pairs.request c.args.words.now c.pairs.at c.get.result.now c.get-in-pairs.result.now c.in-Ok.key c.in-Ok-new_word.more (omega arith)
      c.get.ensures c.get-in-pairs.ensures (sym c.new_key.ensures ∙ c.in-Ok.is) (sym c.new_word.ensures ∙ c.in-Ok-new_word.is)
      ∙ c.pairs.invariant.rest;
}

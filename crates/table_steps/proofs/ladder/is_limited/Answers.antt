use Rattle.std.proofs.Common.{◌≡◌, ◌∙◌, true, false, rules, sym, below_more}
use Rattle.std.proofs.lemmas.Option.{get_or_from_slice_get}
use Rattle.offer_model.specs.declared.products.Limit.TheVariants.{Total, Ladder}
use Rattle.limit_rules.specs.Broken.{limit_at}
use Rattle.table_steps.proofs.LadderLimitLemmas.{limited_by, limited_none}
use Rattle.table_steps.proofs.ladder.is_limited.Goals as goal

pub returns-then-is_ladder : goal.returns-then-is_ladder
returns-then-is_ladder c =
    let read : limit_at c.args.p.now c.loop-k.k ≡ Ladder c.args.ladder
    = get_or_from_slice_get c.args.p.now.limits c.loop-k.k _ (Total 0) (search rules) ∙ c.is_ladder.ensures.0 (search rules) in
    sym (limited_by c.args.p.now.limits c.args.ladder c.loop-k.k (search rules) read)

pub loop-k-preserved : goal.loop-k-preserved
loop-k-preserved c = below_more (λ j. limit_at c.args.p.now j ≡ Ladder c.args.ladder → ⊥) c.loop-k.k c.loop-k.invariant (λ e.
    let t : c.is_ladder.result ≡ true = c.is_ladder.ensures.1 (sym (get_or_from_slice_get c.args.p.now.limits c.loop-k.k _ (Total 0) (search rules)) ∙ e) in
    let f : c.is_ladder.result ≡ false = search rules in
    cc)

pub returns : goal.returns
returns c = sym (limited_none c.args.p.now.limits c.args.ladder (λ k l e. c.loop-k.invariant k (search rules) e))

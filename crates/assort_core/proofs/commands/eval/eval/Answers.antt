use Rattle.std.proofs.Common.{◌≡◌, ◌∙◌, arith, sym, ap, length}
use Rattle.assort_core.specs.Stages.{InputsData, offered}
use Rattle.assort_core.proofs.EvalLemmas.{offer_asked, eval_answer, eval_refused}
use Rattle.assort_core.proofs.commands.eval.eval.Goals as goal

pub returns-then-len-clause-stopped : goal.returns-then-len-clause-stopped
returns-then-len-clause-stopped g c = λ told.
    let word = c.in_ok-offered.ensures ∙ offer_asked c.args.task.now c.offer.result.now c.offer.ensures.word in
    let long : length (offered c.args.task.now) ≡ c.len.result = ap length (sym word) ∙ sym c.len.ensures in
    let wide : c.len-2.result ≡ length c.in-Ok.tables.rows = c.len-2.ensures.value ∙ ap (λ (i : InputsData). length i.rows) c.tables.view_is in
    eval_refused c.args.task.now (g.S.Store.view c.args.store.now) c.in-Ok.tables c.requires c.offer.ensures.arcs (c.in-Ok.ensures.given told)
    (λ same. absurd (omega (arith, c.if-len.true, long, wide, same)))

pub returns-clause-answer : goal.returns-clause-answer
returns-clause-answer g c = λ told.
    let word = c.in_ok-offered.ensures ∙ offer_asked c.args.task.now c.offer.result.now c.offer.ensures.word in
    let long : length (offered c.args.task.now) ≡ c.len.result = ap length (sym word) ∙ sym c.len.ensures in
    let wide : c.len-2.result ≡ length c.in-Ok.tables.rows = c.len-2.ensures.value ∙ ap (λ (i : InputsData). length i.rows) c.tables.view_is in
    eval_answer c.args.task.now (g.S.Store.view c.args.store.now) c.in-Ok.tables _ c.requires c.offer.ensures.arcs (c.in-Ok.ensures.given told)
    (omega (arith, c.if-len.false, long, wide)) c.in_ok-evaluate.ensures.answer

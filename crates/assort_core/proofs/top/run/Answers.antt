use Rattle.std.proofs.Common.{◌≡◌, ◌≢◌, ◌∙◌, sym, refl, subst, arith, inl, inr, ⊎_elim, IfOk}
use Rattle.assort_core.proofs.RunLemmas.{performs_refusal, performs_stop, performs_answer, store_fails, steady_store, out_fails, claim_holds, below_four}
use Rattle.assort_core.specs.Runs.{HoldsInputs}
use Rattle.assort_core.proofs.top.run.Goals as goal

pub returns-in-Err-clause-outcome : goal.returns-in-Err-clause-outcome
returns-in-Err-clause-outcome g c = λ small told.
    let line = c.as_bytes.ensures.value ∙ c.as_str.ensures.value ∙ c.usage_line.ensures in
    performs_refusal c.args.words.now (g.S.Store.view c.args.store.now) c.in-Err.fault (g.O.Sink.view c.args.out.now) (g.E.Sink.view c.args.err.now) (g.E.Sink.view c.say.new.err)
    (sym c.read_task.ensures ∙ c.in-Err.is)
    (rw line at c.say.ensures)

pub returns-in-Err-clause-usage : goal.returns-in-Err-clause-usage
returns-in-Err-clause-usage g c =
    let asked = sym c.read_task.ensures ∙ c.in-Err.is in
    let line = c.as_bytes.ensures.value ∙ c.as_str.ensures.value ∙ c.usage_line.ensures in
    rw asked (refl, rw line at c.say.ensures)

pub returns-in-Err-answer_to-clause-outcome : goal.returns-in-Err-answer_to-clause-outcome
returns-in-Err-answer_to-clause-outcome g c = λ small told.
    let why = c.in-Err-answer_to.ensures in
    rw c.refuse.ensures.status (performs_stop c.in-Err-answer_to.stop c.args.words.now (g.S.Store.view c.args.store.now) (g.S.Store.view c.answer_to.new.store) c.in-Ok.task
    (g.O.Sink.view c.args.out.now) (g.E.Sink.view c.args.err.now) (g.E.Sink.view c.refuse.new.err) (sym c.read_task.ensures ∙ c.in-Ok.is)
    (rw c.refuse.ensures.status at small) told why.stopped c.refuse.ensures.line)

pub returns-in-Err-answer_to-clause-failed : goal.returns-in-Err-answer_to-clause-failed
returns-in-Err-answer_to-clause-failed g c = λ four.
    let asked = sym c.read_task.ensures ∙ c.in-Ok.is in
    let why = c.in-Err-answer_to.ensures in
    rw asked (inl (store_fails c.in-Err-answer_to.stop c.in-Ok.task (g.S.Store.view c.args.store.now) (g.S.Store.view c.answer_to.new.store)
    (g.O.Sink.view c.args.out.now) (g.E.Sink.view c.args.err.now) (g.E.Sink.view c.refuse.new.err) (sym c.refuse.ensures.status ∙ four) why.stopped why.part.part
    c.refuse.ensures.line))

pub returns-in-Ok-answer_to-clause-outcome : goal.returns-in-Ok-answer_to-clause-outcome
returns-in-Ok-answer_to-clause-outcome g c = λ small told.
    let printed : c.print.result ≢ 4 = λ e. absurd (omega (arith, e, small)) in
    let status : c.print.result ≡ c.in-Ok-answer_to.answer.status = ⊎_elim (λ e. e) (λ e. absurd (printed e)) c.print.ensures.status in
    rw (status, c.print.ensures.quiet printed) (performs_answer c.args.words.now (g.S.Store.view c.args.store.now) c.in-Ok.task c.in-Ok-answer_to.answer.status
    c.in-Ok-answer_to.answer.report.items (g.O.Sink.view c.args.out.now) (g.O.Sink.view c.print.new.out) (g.E.Sink.view c.args.err.now)
    (sym c.read_task.ensures ∙ c.in-Ok.is) (c.in-Ok-answer_to.ensures.answer told) (c.print.ensures.prints printed))

pub returns-in-Ok-answer_to-clause-failed : goal.returns-in-Ok-answer_to-clause-failed
returns-in-Ok-answer_to-clause-failed g c = λ four.
    let asked = sym c.read_task.ensures ∙ c.in-Ok.is in
    rw asked (inr (out_fails c.args.words.now (g.S.Store.view c.args.store.now) (g.S.Store.view c.answer_to.new.store) c.in-Ok.task c.in-Ok-answer_to.answer.status c.in-Ok-answer_to.answer.report.items
    (g.O.Sink.view c.args.out.now) (g.O.Sink.view c.print.new.out) (g.E.Sink.view c.args.err.now) (g.E.Sink.view c.print.new.err) asked
    c.in-Ok-answer_to.ensures.answer (c.print.ensures.fails four) (c.print.ensures.says four)
    c.in-Ok-answer_to.ensures.whole.proof c.in-Ok-answer_to.ensures.whole.sealed))

pub returns-in-Ok-answer_to-clause-checked : goal.returns-in-Ok-answer_to-clause-checked
returns-in-Ok-answer_to-clause-checked g c = λ zero told.
    let asked = sym c.read_task.ensures ∙ c.in-Ok.is in
    let status : c.print.result ≡ c.in-Ok-answer_to.answer.status = ⊎_elim (λ e. e) (λ e. absurd (omega (arith, e, zero))) c.print.ensures.status in
    rw asked (claim_holds c.in-Ok.task (g.S.Store.view c.args.store.now) c.in-Ok-answer_to.answer.report.items
    (rw (sym status ∙ zero) at (c.in-Ok-answer_to.ensures.answer told)))

pub returns-in-Err-answer_to-clause-steady : goal.returns-in-Err-answer_to-clause-steady
returns-in-Err-answer_to-clause-steady g c = λ four steady held.
    let asked = sym c.read_task.ensures ∙ c.in-Ok.is in
    absurd (steady_store c.in-Err-answer_to.stop c.in-Ok.task (g.S.Store.view c.args.store.now) (g.S.Store.view c.answer_to.new.store)
    (sym c.refuse.ensures.status ∙ four) c.in-Err-answer_to.ensures.stopped steady
    (subst (λ o. IfOk o (λ r. HoldsInputs r (g.S.Store.view c.args.store.now))) asked held))

pub returns-in-Err-answer_to-clause-others : goal.returns-in-Err-answer_to-clause-others
returns-in-Err-answer_to-clause-others g c = let asked = sym c.read_task.ensures ∙ c.in-Ok.is in rw asked c.in-Err-answer_to.ensures.part.others

pub returns-in-Err-answer_to-clause-part : goal.returns-in-Err-answer_to-clause-part
returns-in-Err-answer_to-clause-part g c = λ five. let asked = sym c.read_task.ensures ∙ c.in-Ok.is in rw asked c.in-Err-answer_to.ensures.part.part

pub returns-in-Err-answer_to-clause-kept : goal.returns-in-Err-answer_to-clause-kept
returns-in-Err-answer_to-clause-kept g c = λ some few. c.in-Err-answer_to.ensures.part.kept (below_four c.in-Err-answer_to.stop (rw c.refuse.ensures.status at few))

pub returns-in-Err-answer_to-clause-endures : goal.returns-in-Err-answer_to-clause-endures
returns-in-Err-answer_to-clause-endures g c = c.in-Err-answer_to.ensures.part.endures

pub returns-in-Ok-answer_to-clause-others : goal.returns-in-Ok-answer_to-clause-others
returns-in-Ok-answer_to-clause-others g c = let asked = sym c.read_task.ensures ∙ c.in-Ok.is in rw asked c.in-Ok-answer_to.ensures.whole.others

pub returns-in-Ok-answer_to-clause-proof : goal.returns-in-Ok-answer_to-clause-proof
returns-in-Ok-answer_to-clause-proof g c = λ zero. let asked = sym c.read_task.ensures ∙ c.in-Ok.is in rw asked c.in-Ok-answer_to.ensures.whole.proof

pub returns-in-Ok-answer_to-clause-sealed : goal.returns-in-Ok-answer_to-clause-sealed
returns-in-Ok-answer_to-clause-sealed g c = λ zero. let asked = sym c.read_task.ensures ∙ c.in-Ok.is in rw asked c.in-Ok-answer_to.ensures.whole.sealed

pub returns-in-Ok-answer_to-clause-endures : goal.returns-in-Ok-answer_to-clause-endures
returns-in-Ok-answer_to-clause-endures g c = c.in-Ok-answer_to.ensures.whole.endures

use Rattle.proof_check.specs.Waiting.{Takes}
use Rattle.assort_core.proofs.CheckLemmas.{check_answer, proof_unread}
use Rattle.assort_core.proofs.commands.check.check.Goals as goal

pub returns-clause-answer : goal.returns-clause-answer
returns-clause-answer g c =
    check_answer c.args.task.now (g.S.Store.view c.args.store.now) (g.S.Store.view c.read_subject.new.store) c.in-Ok.subject
    c.checked_proof.result.now c.in_ok-verdict-in-Ok-read_verdict.field-0.report.items (Takes c.in_ok-checker.checker) c.in-Ok-read_verdict.accepted
    c.in_ok-verdict-in-Ok-read_verdict.field-0.status
    c.requires c.checked_proof.ensures c.read_subject.ensures.passes c.in-Ok.ensures.given c.in_ok-checker.ensures c.in-Ok-read_verdict.ensures.verdict
    c.in_ok-verdict-in-Ok-read_verdict.ensures.status c.in_ok-verdict-in-Ok-read_verdict.ensures.report

pub returns-in-Err-read_verdict-clause-stopped : goal.returns-in-Err-read_verdict-clause-stopped
returns-in-Err-read_verdict-clause-stopped g c =
    proof_unread c.in-Err-read_verdict.stop c.args.task.now (g.S.Store.view c.args.store.now) (g.S.Store.view c.read_subject.new.store) (g.S.Store.view c.read_verdict.new.store)
    c.in-Ok.subject c.checked_proof.result.now
    c.requires c.checked_proof.ensures c.read_subject.ensures.passes c.in-Ok.ensures.given c.in-Err-read_verdict.ensures.stopped

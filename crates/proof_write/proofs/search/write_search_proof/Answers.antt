use Rattle.std.proofs.Common.{rules}
use Rattle.proof_write.proofs.SearchProofLemmas.{zeros_write}
use Rattle.proof_write.proofs.WrittenLemmas.{claimed, answers}
use Rattle.proof_write.proofs.search.write_search_proof.Goals as goal

pub returns-clause-written : goal.returns-clause-written
returns-clause-written g c = (answers _ _ _ _ (λ fine. zeros_write c.args.p.now c.args.x.now c.deref.result.now _ _ _ c.in_ok-rule.rule c.len.result
    c.in_ok-rule.ensures.problem c.in_ok-rule.ensures.best (search rules) c.in_ok-header.ensures.valid c.requires.model c.requires.kind
    (claimed c.args.p.now c.args.x.now c.in_ok-header.ensures.valid c.requires.best c.in_ok-header.ensures.value) (rw c.deref.ensures.value c.in_ok-header.ensures.lines)
    (c.put_proof.ensures.puts fine))).written

pub returns-clause-part : goal.returns-clause-part
returns-clause-part g c = (answers _ _ _ _ (λ fine. zeros_write c.args.p.now c.args.x.now c.deref.result.now _ _ _ c.in_ok-rule.rule c.len.result
    c.in_ok-rule.ensures.problem c.in_ok-rule.ensures.best (search rules) c.in_ok-header.ensures.valid c.requires.model c.requires.kind
    (claimed c.args.p.now c.args.x.now c.in_ok-header.ensures.valid c.requires.best c.in_ok-header.ensures.value) (rw c.deref.ensures.value c.in_ok-header.ensures.lines)
    (c.put_proof.ensures.puts fine))).part

pub returns-clause-cause : goal.returns-clause-cause
returns-clause-cause g c = (answers _ _ _ _ (λ fine. zeros_write c.args.p.now c.args.x.now c.deref.result.now _ _ _ c.in_ok-rule.rule c.len.result
    c.in_ok-rule.ensures.problem c.in_ok-rule.ensures.best (search rules) c.in_ok-header.ensures.valid c.requires.model c.requires.kind
    (claimed c.args.p.now c.args.x.now c.in_ok-header.ensures.valid c.requires.best c.in_ok-header.ensures.value) (rw c.deref.ensures.value c.in_ok-header.ensures.lines)
    (c.put_proof.ensures.puts fine))).cause

pub returns-clause-ready : goal.returns-clause-ready
returns-clause-ready g c = (answers _ _ _ _ (λ fine. zeros_write c.args.p.now c.args.x.now c.deref.result.now _ _ _ c.in_ok-rule.rule c.len.result
    c.in_ok-rule.ensures.problem c.in_ok-rule.ensures.best (search rules) c.in_ok-header.ensures.valid c.requires.model c.requires.kind
    (claimed c.args.p.now c.args.x.now c.in_ok-header.ensures.valid c.requires.best c.in_ok-header.ensures.value) (rw c.deref.ensures.value c.in_ok-header.ensures.lines)
    (c.put_proof.ensures.puts fine))).ready

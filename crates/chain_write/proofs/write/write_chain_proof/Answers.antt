use Rattle.chain_write.proofs.LineLemmas.{chain_writable}
use Rattle.chain_write.proofs.WrittenLemmas.{answers}
use Rattle.chain_write.proofs.write.write_chain_proof.Goals as goal

pub put_lines-requires-clause-lines : goal.put_lines-requires-clause-lines
put_lines-requires-clause-lines g c = rw c.deref.ensures.value (chain_writable _ c.args.chain.now _ c.args.answer.now c.in_ok-lines.ensures.lines c.in_ok-lines.ensures.accepted)

pub returns-clause-written : goal.returns-clause-written
returns-clause-written g c = (answers c.args.chain.now c.args.answer.now c.deref.result.now _ _ _ c.requires.answer c.in_ok-lines.ensures.accepted
    (rw c.deref.ensures.value c.in_ok-lines.ensures.lines) c.put_lines.ensures.puts).written

pub returns-clause-part : goal.returns-clause-part
returns-clause-part g c = (answers c.args.chain.now c.args.answer.now c.deref.result.now _ _ _ c.requires.answer c.in_ok-lines.ensures.accepted
    (rw c.deref.ensures.value c.in_ok-lines.ensures.lines) c.put_lines.ensures.puts).part

pub returns-clause-cause : goal.returns-clause-cause
returns-clause-cause g c = (answers c.args.chain.now c.args.answer.now c.deref.result.now _ _ _ c.requires.answer c.in_ok-lines.ensures.accepted
    (rw c.deref.ensures.value c.in_ok-lines.ensures.lines) c.put_lines.ensures.puts).cause

pub returns-clause-ready : goal.returns-clause-ready
returns-clause-ready g c = (answers c.args.chain.now c.args.answer.now c.deref.result.now _ _ _ c.requires.answer c.in_ok-lines.ensures.accepted
    (rw c.deref.ensures.value c.in_ok-lines.ensures.lines) c.put_lines.ensures.puts).ready

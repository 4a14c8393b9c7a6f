use Rattle.std.proofs.Common.{◌∙◌, ◌+◌, sym, arith, ap}
use Rattle.proof_lines.specs.Closing.{own_prices}
use Rattle.proof_lines.specs.Writing.{offered_end}
use Rattle.proof_tree.specs.Pens.{lines_data}
use Rattle.proof_write.proofs.LeafLemmas.{data_length}
use Rattle.proof_write.proofs.RatioProofLemmas.{AreLeaves-printable, path_writes}
use Rattle.proof_write.proofs.WrittenLemmas.{claimed, answers}
use Rattle.proof_write.proofs.ratio.write_ratio_proof.Goals as goal

pub invariant_of-rule : goal.invariant_of-rule
invariant_of-rule g c =
    let ls = c.in_ok-leaves.leaves.items in
    let closed = c.in_ok-leaves.ensures.leaves in
    record {
      last = c.end_of_offered.ensures.value;
      each = sym (data_length ls) ∙ closed.each ∙ ap (λ n. n + 1) (sym c.end_of_offered.ensures.value);
      printable = λ k b. AreLeaves-printable c.args.p.now (own_prices c.args.p.now c.args.x.now) c.args.x.now (offered_end c.args.x.now) (lines_data ls) c.in_ok-header.ensures.valid closed k
          (let same = data_length ls in omega arith);
    }

pub returns-clause-written : goal.returns-clause-written
returns-clause-written g c = (answers _ _ _ _ (λ fine. path_writes c.args.p.now c.args.x.now (lines_data c.in_ok-leaves.leaves.items) c.deref.result.now _ _ _ c.len.result c.len.ensures
    (claimed c.args.p.now c.args.x.now c.in_ok-header.ensures.valid c.requires.best c.in_ok-header.ensures.value) (rw c.deref.ensures.value c.in_ok-header.ensures.lines)
    (record { valid = c.in_ok-header.ensures.valid; ratio = c.requires.model; kind = c.requires.kind; best = c.requires.best; closed = c.in_ok-leaves.ensures.leaves })
    (c.put_proof.ensures.puts fine))).written

pub returns-clause-part : goal.returns-clause-part
returns-clause-part g c = (answers _ _ _ _ (λ fine. path_writes c.args.p.now c.args.x.now (lines_data c.in_ok-leaves.leaves.items) c.deref.result.now _ _ _ c.len.result c.len.ensures
    (claimed c.args.p.now c.args.x.now c.in_ok-header.ensures.valid c.requires.best c.in_ok-header.ensures.value) (rw c.deref.ensures.value c.in_ok-header.ensures.lines)
    (record { valid = c.in_ok-header.ensures.valid; ratio = c.requires.model; kind = c.requires.kind; best = c.requires.best; closed = c.in_ok-leaves.ensures.leaves })
    (c.put_proof.ensures.puts fine))).part

pub returns-clause-cause : goal.returns-clause-cause
returns-clause-cause g c = (answers _ _ _ _ (λ fine. path_writes c.args.p.now c.args.x.now (lines_data c.in_ok-leaves.leaves.items) c.deref.result.now _ _ _ c.len.result c.len.ensures
    (claimed c.args.p.now c.args.x.now c.in_ok-header.ensures.valid c.requires.best c.in_ok-header.ensures.value) (rw c.deref.ensures.value c.in_ok-header.ensures.lines)
    (record { valid = c.in_ok-header.ensures.valid; ratio = c.requires.model; kind = c.requires.kind; best = c.requires.best; closed = c.in_ok-leaves.ensures.leaves })
    (c.put_proof.ensures.puts fine))).cause

pub returns-clause-ready : goal.returns-clause-ready
returns-clause-ready g c = (answers _ _ _ _ (λ fine. path_writes c.args.p.now c.args.x.now (lines_data c.in_ok-leaves.leaves.items) c.deref.result.now _ _ _ c.len.result c.len.ensures
    (claimed c.args.p.now c.args.x.now c.in_ok-header.ensures.valid c.requires.best c.in_ok-header.ensures.value) (rw c.deref.ensures.value c.in_ok-header.ensures.lines)
    (record { valid = c.in_ok-header.ensures.valid; ratio = c.requires.model; kind = c.requires.kind; best = c.requires.best; closed = c.in_ok-leaves.ensures.leaves })
    (c.put_proof.ensures.puts fine))).ready

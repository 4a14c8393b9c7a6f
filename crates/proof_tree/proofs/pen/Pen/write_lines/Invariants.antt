use Rattle.std.proofs.Common.{◌≡◌, drop, true}
use Rattle.proof_lines.specs.Lines.{text_of}
use Rattle.proof_tree.specs.Pens.{lines_data}
use Rattle.proof_tree.proofs.PutLemmas.{IsPutSoFar}
use Rattle.proof_tree.proofs.pen.Pen.write_lines.Given as goal

-- All lines before this one are written.
abbrev pub invariant-loop-line : goal.invariant-loop-line
invariant-loop-line g l = record {
  writing : (g.S.Store.view l.store).writing ≡ true;
  lines : IsPutSoFar (g.S.Store.view l.fn.store) (text_of (lines_data l.lines)) (text_of (lines_data (drop l.line-index l.lines))) (g.S.Store.view l.store);
}

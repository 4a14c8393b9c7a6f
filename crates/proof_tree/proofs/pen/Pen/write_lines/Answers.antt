use Rattle.proof_tree.proofs.LinesLemmas.{next_text}
use Rattle.proof_tree.proofs.PutLemmas.{more_so_far, stops_so_far}
use Rattle.proof_tree.proofs.pen.Pen.write_lines.Goals as goal

pub returns-in_err-send : goal.returns-in_err-send
returns-in_err-send g c =
    let next = next_text c.args.lines.now c.loop-line.line-index c.line-item.result c.put_line.new.self c.loop-line-test.true c.line-item.is c.put_line.ensures in
    stops_so_far _ _ _ _ _ c.put_line.new.self _ _ c.from_residual.result c.from_residual.ensures.0 next c.loop-line.invariant.lines c.in_err-send.ensures

pub loop-line-preserved : goal.loop-line-preserved
loop-line-preserved g c = record {
  writing = c.send.ensures.writing;
  lines = more_so_far _ _ _ _ _ c.put_line.new.self _
      (next_text c.args.lines.now c.loop-line.line-index c.line-item.result c.put_line.new.self c.loop-line-test.true c.line-item.is c.put_line.ensures)
      c.loop-line.invariant.lines c.in_ok-send.ensures;
}

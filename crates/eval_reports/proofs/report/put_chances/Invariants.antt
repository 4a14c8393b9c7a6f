use Rattle.std.proofs.Common.{◌≡◌, ◌++◌, drop}
use Rattle.offer_model.specs.Problems.{segment_at}
use Rattle.eval_reports.specs.EvalReports.{chance_lines_from}
use Rattle.eval_reports.proofs.report.put_chances.Given as goal

abbrev pub invariant-chances : goal.invariant-chances
invariant-chances l = l.text.items ++ chance_lines_from l.p l.x (segment_at l.p l.g) l.i (drop l.i l.c)
    ≡ l.initial.text.items ++ chance_lines_from l.p l.x (segment_at l.p l.g) 0 l.c

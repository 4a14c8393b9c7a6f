use Rattle.std.proofs.Common.{◌≡◌, ◌++◌, drop}
use Rattle.eval_reports.specs.EvalReports.{all_segment_lines}
use Rattle.eval_reports.proofs.report.put_segments.Given as goal

abbrev pub invariant-segments : goal.invariant-segments
invariant-segments l = l.text.items ++ all_segment_lines l.c l.p l.x (drop l.g l.s) ≡ l.initial.text.items ++ all_segment_lines l.c l.p l.x l.s

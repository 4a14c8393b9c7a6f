use Rattle.std.proofs.Common.{◌≡◌, ◌++◌, drop}
use Rattle.assort_reports.specs.Reports.{offer_lines}
use Rattle.assort_reports.proofs.report.put_offers.Given as goal

abbrev pub invariant-offers : goal.invariant-offers
invariant-offers l = l.text.items ++ offer_lines (drop l.i l.c) (drop l.i l.x) ≡ l.initial.text.items ++ offer_lines l.c l.x

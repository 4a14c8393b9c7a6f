-- The reports that were worked by hand, by computation.
use Rattle.std.proofs.Common.{refl}
use Rattle.std.specs.Fmt.{digits}
use Rattle.eval_reports.specs.WorkedReports.{ReportsAreWorked}

-- Each of them.
pub reports_worked : ReportsAreWorked
unfolding digits
reports_worked = record { shadow = refl; broken = refl; mixed = refl }

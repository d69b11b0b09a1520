-- `charges::reports::refused_report` meets its contract: it is the definition's record.
use mathlib.Core.Path.{refl}
use Rattle.charges.specs.Report.{refused_report}
use Rattle.charges.proofs.reports.refused_report.Goals as goal

pub returns : goal.returns
unfolding refused_report
returns c = refl

-- `text::write_report` meets its contract: the lines of the charges, or the line of the refusal.
use Rattle.std.proofs.Common.{rules}
use Rattle.text.proofs.Pieces.{charged_text, refused-text}
use Rattle.text.proofs.write_report.Goals.{then-report-eq0, else-report-eq0}
use Rattle.text.proofs.write_report.Goals as goal

pub returns : goal.returns
returns c =
    elim c.if-report-eq0.branch [
      | then-report-eq0 w ↦ rw w.text-is (charged_text _ _ w.if-report-eq0.true w.push_charges.ensures.wrote (search rules))
      | else-report-eq0 w ↦ rw w.text-is (refused-text _ _ w.if-report-eq0.false w.push_refusal.ensures.wrote (search rules))
    ]

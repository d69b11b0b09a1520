-- `text::lines::Text::push_charges` meets its contract: seven lines one after the other.
use Rattle.std.proofs.Common.{arith}
use Rattle.text.specs.Ascii.{ascii}
use Rattle.text.specs.Lines.{line, charges_text}
use Rattle.text.proofs.Pieces.{line-most, seven_in_steps}
use Rattle.text.proofs.lines.Text.push_charges.Goals as goal

pub returns-clause-wrote : goal.returns-clause-wrote
unfolding ascii charges_text
returns-clause-wrote c =
    let report = c.args.report in
    seven_in_steps c.args.self.now.out.now
    (line (ascii "interest-specific") report.interest.specific)
    (line (ascii "interest-general") report.interest.general)
    (line (ascii "equity-specific") report.equity.specific)
    (line (ascii "equity-general") report.equity.general)
    (line (ascii "fx") report.exchange)
    (line (ascii "commodity") report.commodity)
    (line (ascii "total") report.total)
    c.args.self.now.length
    (omega (
      arith,
      line-most (ascii "interest-specific") report.interest.specific,
      line-most (ascii "interest-general") report.interest.general,
      line-most (ascii "equity-specific") report.equity.specific,
      line-most (ascii "equity-general") report.equity.general,
      line-most (ascii "fx") report.exchange,
      line-most (ascii "commodity") report.commodity,
      line-most (ascii "total") report.total,
    ))
    c.push_line.ensures.wrote c.push_line-2.ensures.wrote c.push_line-3.ensures.wrote c.push_line-4.ensures.wrote
    c.push_line-5.ensures.wrote c.push_line-6.ensures.wrote c.push_line-7.ensures.wrote

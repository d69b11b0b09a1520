-- `text::lines::Text::push_refusal` meets its contract: a word, a number, and a line.
use Rattle.std.proofs.Common.{arith}
use Rattle.text.specs.Ascii.{ascii}
use Rattle.text.specs.Lines.{decimal, line, refusal_text}
use Rattle.text.proofs.Pieces.{most_digits, line-most, three_in_steps}
use Rattle.text.proofs.lines.Text.push_refusal.Goals as goal

pub returns-clause-wrote : goal.returns-clause-wrote
unfolding ascii refusal_text
returns-clause-wrote c =
    let refusal = c.args.refusal in
    three_in_steps c.args.self.now.out.now (ascii "refused ") (decimal refusal.number) (line (ascii " row") refusal.row) c.args.self.now.length
    (omega (arith, most_digits 20 refusal.number, line-most (ascii " row") refusal.row))
    c.push.ensures.wrote
    (rw c.from.ensures at c.push_decimal.ensures.wrote)
    (rw c.from-2.ensures at c.push_line.ensures.wrote)

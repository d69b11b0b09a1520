-- `text::lines::Text::push_line` meets its contract: four pieces one after the other.
use Rattle.text.specs.Ascii.{ascii}
use Rattle.text.proofs.Pieces.{line-in_steps}
use Rattle.text.proofs.lines.Text.push_line.Goals as goal

pub returns-clause-wrote : goal.returns-clause-wrote
unfolding ascii
returns-clause-wrote c =
    line-in_steps c.args.name.now c.args.n c.args.self.now.out.now c.args.self.now.length c.requires
    c.push.ensures.wrote c.push-2.ensures.wrote c.push_decimal.ensures.wrote c.push-3.ensures.wrote

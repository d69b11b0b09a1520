-- Each call of `text::lines::Text::push_decimal` of itself has a number with one digit less.
use Rattle.text.proofs.lines.Text.+push_decimal.Given as goal

abbrev pub decreases-push_decimal : goal.decreases-push_decimal
decreases-push_decimal l = l.n

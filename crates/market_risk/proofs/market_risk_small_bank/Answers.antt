-- `market_risk_small_bank` meets its contract: the entries of an answer are its figures, or its refusal and no figure.
use mathlib.Core.Path.{ap, ◌∙◌}
use Rattle.book.specs.Refusals.{refused}
use Rattle.book.specs.Reasons.{told, figure_in}
use Rattle.charges.specs.SmallBank.{small_answer}
use Rattle.market_risk.specs.Entries.{refusal_entries, small_figures, small_entries}
use Rattle.market_risk.proofs.market_risk_small_bank.Goals as goal

pub returns-in-Ok : goal.returns-in-Ok
unfolding told refused small_answer figure_in refusal_entries small_entries small_figures
returns-in-Ok c = ap small_entries c.in-Ok.ensures

pub returns-in-Err : goal.returns-in-Err
unfolding told refused small_answer figure_in refusal_entries small_entries small_figures
returns-in-Err c = c.refused_entries.ensures ∙ ap small_entries c.in-Err.ensures

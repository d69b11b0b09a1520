-- `market_risk_interest_ladder` meets its contract: the entries of an answer are its figures, or its refusal and no figure.
use mathlib.Core.Path.{ap, ◌∙◌}
use Rattle.book.specs.Refusals.{refused}
use Rattle.book.specs.Reasons.{told}
use Rattle.charges.specs.Report.{figures_or, interest_answer}
use Rattle.market_risk.specs.Entries.{refusal_entries, interest_entries}
use Rattle.market_risk.proofs.market_risk_interest_ladder.Goals as goal

pub returns-in-Ok : goal.returns-in-Ok
unfolding told refused interest_answer figures_or refusal_entries interest_entries
returns-in-Ok c = ap interest_entries c.in-Ok.ensures

pub returns-in-Err : goal.returns-in-Err
unfolding told refused interest_answer figures_or refusal_entries interest_entries
returns-in-Err c = c.refused_entries.ensures ∙ ap interest_entries c.in-Err.ensures

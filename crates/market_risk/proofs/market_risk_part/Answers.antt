-- `market_risk_part` meets its contract: the entries of an answer are its figures, or its refusal and no figure.
use mathlib.Core.Path.{ap, ◌∙◌}
use Rattle.book.specs.Refusals.{refused}
use Rattle.book.specs.Reasons.{told, figure_in}
use Rattle.book.specs.Parts.{handed_answer}
use Rattle.market_risk.specs.Entries.{refusal_entries, handed_entries}
use Rattle.market_risk.proofs.market_risk_part.Goals as goal

pub returns-in-Ok : goal.returns-in-Ok
unfolding told refused handed_answer figure_in refusal_entries handed_entries
returns-in-Ok c = ap handed_entries c.in-Ok.ensures

pub returns-in-Err : goal.returns-in-Err
unfolding told refused handed_answer figure_in refusal_entries handed_entries
returns-in-Err c = c.refused_entries.ensures ∙ ap handed_entries c.in-Err.ensures

-- `market_risk_join` meets its contract: the entries of an answer are its figures, or its refusal and no figure.
use mathlib.Core.Path.{ap, ◌∙◌}
use Rattle.book.specs.Refusals.{refused}
use Rattle.book.specs.Reasons.{told, figure_in}
use Rattle.join.specs.Joined.{joined_answer}
use Rattle.market_risk.specs.Entries.{refusal_entries, joined_entries}
use Rattle.market_risk.proofs.writing.market_risk_join.Goals as goal

pub returns-in-Ok-clause-res_after : goal.returns-in-Ok-clause-res_after
unfolding told refused joined_answer figure_in refusal_entries joined_entries
returns-in-Ok-clause-res_after c = ap joined_entries c.in-Ok.ensures.answer

pub returns-in-Err-clause-res_after : goal.returns-in-Err-clause-res_after
unfolding told refused joined_answer figure_in refusal_entries joined_entries
returns-in-Err-clause-res_after c = c.refused_entries.ensures ∙ ap joined_entries c.in-Err.ensures.answer

-- `market_risk_net_and_offset` meets its contract: the entries of an answer are its figures, or its refusal and no figure.
use mathlib.Core.Path.{ap, ◌∙◌}
use Rattle.book.specs.Refusals.{refused}
use Rattle.book.specs.Reasons.{told, figure_in}
use Rattle.market_risk.specs.Entries.{refusal_entries, netted_entries}
use Rattle.market_risk.proofs.writing.market_risk_net_and_offset.Goals as goal

pub returns-in-Ok-clause-res_after : goal.returns-in-Ok-clause-res_after
unfolding told refused figure_in refusal_entries netted_entries
returns-in-Ok-clause-res_after c = c.entries.ensures ∙ ap netted_entries c.in-Ok.ensures.answer

pub returns-in-Err-clause-res_after : goal.returns-in-Err-clause-res_after
unfolding told refused figure_in refusal_entries netted_entries
returns-in-Err-clause-res_after c = c.refused_entries.ensures ∙ ap netted_entries c.in-Err.ensures.answer

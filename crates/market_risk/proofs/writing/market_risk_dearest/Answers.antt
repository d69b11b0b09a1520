-- `market_risk_dearest` meets its contract: the entries of an answer are its figures, or its refusal and no figure.
use mathlib.Core.Path.{ap, ◌∙◌}
use Rattle.book.specs.Refusals.{refused}
use Rattle.book.specs.Reasons.{told, figure_in}
use Rattle.dearest.specs.Dearest.{dearest_answer}
use Rattle.market_risk.specs.Entries.{refusal_entries, costed_entries}
use Rattle.market_risk.proofs.writing.market_risk_dearest.Goals as goal

pub returns-in-Ok-clause-res_after : goal.returns-in-Ok-clause-res_after
unfolding told refused dearest_answer figure_in refusal_entries costed_entries
returns-in-Ok-clause-res_after c = c.entries.ensures ∙ ap costed_entries c.in-Ok.ensures.answer

pub returns-in-Err-clause-res_after : goal.returns-in-Err-clause-res_after
unfolding told refused dearest_answer figure_in refusal_entries costed_entries
returns-in-Err-clause-res_after c = c.refused_entries.ensures ∙ ap costed_entries c.in-Err.ensures.answer

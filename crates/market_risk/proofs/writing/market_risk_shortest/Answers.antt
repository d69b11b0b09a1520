-- `market_risk_shortest` meets its contract: the entries of an answer are its figures, or its refusal and no figure.
use mathlib.Core.Path.{ap, ◌∙◌}
use Rattle.book.specs.Refusals.{refused}
use Rattle.shortest.specs.Shortest.{shortest_answer}
use Rattle.market_risk.specs.Entries.{refusal_entries, shown_entries}
use Rattle.market_risk.proofs.writing.market_risk_shortest.Goals as goal

pub returns-in-Ok-Some-clause-res_after : goal.returns-in-Ok-Some-clause-res_after
unfolding refused shortest_answer refusal_entries shown_entries
returns-in-Ok-Some-clause-res_after c = c.entries.ensures ∙ ap shown_entries (rw c.in-Ok-Some.field-0-is at c.in-Ok-Some.ensures.answer)

pub returns-in-Ok-None-clause-res_after : goal.returns-in-Ok-None-clause-res_after
unfolding refused shortest_answer refusal_entries shown_entries
returns-in-Ok-None-clause-res_after c = c.entries-in-Ok-None.ensures ∙ ap shown_entries (rw c.in-Ok-None.field-0-is at c.in-Ok-None.ensures.answer)

pub returns-in-Err-clause-res_after : goal.returns-in-Err-clause-res_after
unfolding refused shortest_answer refusal_entries shown_entries
returns-in-Err-clause-res_after c = c.refused_entries.ensures ∙ ap shown_entries c.in-Err.ensures.answer

-- `market_risk_least_trade` meets its contract: the entries of an answer are its figures, or its refusal and no figure.
use mathlib.Core.Path.{ap, ◌∙◌}
use Rattle.book.specs.Refusals.{refused}
use Rattle.trade.specs.Trade.{trade_answer}
use Rattle.market_risk.specs.Entries.{refusal_entries, trade_entries}
use Rattle.market_risk.proofs.market_risk_least_trade.Goals as goal

pub returns-in-Ok-Some : goal.returns-in-Ok-Some
unfolding refused trade_answer refusal_entries trade_entries
returns-in-Ok-Some c = ap trade_entries (rw c.in-Ok-Some.field-0-is at c.in-Ok-Some.ensures)

pub returns-in-Ok-None : goal.returns-in-Ok-None
unfolding refused trade_answer refusal_entries trade_entries
returns-in-Ok-None c = ap trade_entries (rw c.in-Ok-None.field-0-is at c.in-Ok-None.ensures)

pub returns-in-Err : goal.returns-in-Err
unfolding refused trade_answer refusal_entries trade_entries
returns-in-Err c = c.refused_entries.ensures ∙ ap trade_entries c.in-Err.ensures

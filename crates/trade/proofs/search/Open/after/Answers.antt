-- `trade::search::Open::after` meets its contract: from the turn on the charge rises.
use mathlib.Core.Path.{sym}
use native.Mathlib.Omega.{arith}
use Rattle.trade.proofs.Halving.{found_after_turn, none_past, none_after}
use Rattle.trade.proofs.search.Open.after.Goals as goal

pub returns-then-turn-ge-MOST_TRADE : goal.returns-then-turn-ge-MOST_TRADE
returns-then-turn-ge-MOST_TRADE c =
    sym (none_past _ c.args.self.searchable c.requires.turn _ c.requires.turn_over c.if-turn-ge-MOST_TRADE.true)

pub returns-then-charge-limit : goal.returns-then-charge-limit
returns-then-charge-limit c =
    sym (found_after_turn _ c.args.self.searchable c.requires.turn _ c.requires.turn_over c.if-turn-ge-MOST_TRADE.false (omega (arith, c.charge.ensures)))

pub returns : goal.returns
returns c =
    sym (none_after _ c.args.self.searchable c.requires.turn _ c.requires.turn_over c.if-turn-ge-MOST_TRADE.false (omega (arith, c.charge.ensures)))

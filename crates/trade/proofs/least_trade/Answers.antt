-- `trade::least_trade` meets its contract: refused, or the least amount of the currency's ladder.
use Rattle.std.proofs.Common.{sym, ◌∙◌}
use Rattle.book.specs.Reasons.{number_in, told}
use Rattle.book.proofs.Numbers.{some_of}
use Rattle.table.proofs.Accepting.{refused_number, loaded_passed, loaded_table, loaded_bounds}
use Rattle.charges.proofs.Reading.{start_told, ladder_told, group_refused, group_passed, number_first, number_none}
use Rattle.trade.specs.Trade.{trade_refusal}
use Rattle.trade.proofs.Outcome.{refused-trade, book_decides, can_open, given_trade}
use Rattle.trade.proofs.least_trade.Goals as goal

pub returns-in_err-ladder_group : goal.returns-in_err-ladder_group
unfolding trade_refusal
returns-in_err-ladder_group c =
    let wrong = c.in_err-ladder_group.ensures in
    refused-trade _ _ _ _ _ _ _ _ c.from_residual.ensures.1 (ladder_told _ wrong.0 ∙ group_refused _ wrong.1)

pub returns-in_err-by : goal.returns-in_err-by
unfolding trade_refusal
returns-in_err-by c =
    let found = refused_number c.args.table.now _ c.in_err-by.ensures in
    refused-trade _ _ _ _ _ _ _ _ c.from_residual-in_err-by.ensures.1
    (start_told _ found ∙ number_first _ _ (some_of _ found) ∙ group_passed _ c.in_ok-ladder_group.ensures)

pub returns-in_err-side : goal.returns-in_err-side
unfolding trade_refusal number_in
returns-in_err-side c =
    let fine = loaded_passed _ c.in_ok-by.by c.in_ok-by.ensures in
    let found = c.in_err-side.ensures.number in
    refused-trade _ _ _ _ _ _ _ _ c.from_residual-in_err-side.ensures.1
    (start_told _ found ∙ number_first _ _ (some_of _ found) ∙ number_none _ _ fine ∙ group_passed _ c.in_ok-ladder_group.ensures)

pub returns-in_err-positions : goal.returns-in_err-positions
unfolding told number_in
returns-in_err-positions c =
    let fine = loaded_passed _ c.in_ok-by.by c.in_ok-by.ensures in
    refused-trade _ _ _ _ _ _ _ _ c.from_residual-in_err-positions.ensures.1
    (c.in_err-positions.ensures.refusal ∙ book_decides _ _ _ _ _ 0 fine (sym c.in_ok-side.ensures.number))

pub new-opened-requires : goal.new-opened-requires
unfolding number_in
new-opened-requires c =
    can_open c.args.table.now _ _ _ _ 0 c.in_ok-positions.ensures.given _ (loaded_bounds _ _ c.in_ok-by.ensures) (sym c.in_ok-side.ensures.number)

pub returns : goal.returns
unfolding told number_in
returns c =
    let fine = loaded_passed _ c.in_ok-by.by c.in_ok-by.ensures in
    given_trade _ _ _ _ _ _ c.in_ok-positions.ensures.given _ _ c.in_ok-side.ensures.side c.new-opened.ensures (loaded_table _ _ c.in_ok-by.ensures)
    (c.in_ok-positions.ensures.refusal ∙ book_decides _ _ _ _ _ 0 fine (sym c.in_ok-side.ensures.number))
    _
    c.least.ensures

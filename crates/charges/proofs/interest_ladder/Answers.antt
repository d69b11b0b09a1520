-- `charges::interest_ladder` meets its contract: refused, or the figures of the currency's rows.
use Rattle.std.proofs.Common.{ap, ◌∙◌, arith}
use Rattle.book.specs.Reasons.{told}
use Rattle.book.proofs.Numbers.{some_of}
use Rattle.ladder.specs.Inner.Steps.{band_count}
use Rattle.ladder.specs.declared.Table.{Table}
use Rattle.table.proofs.Accepting.{refused_number, loaded_passed, loaded_table, loaded_bounds}
use Rattle.charges.specs.Charges.{interest_figures_of}
use Rattle.charges.specs.Report.{class_rows, ladder_refusal}
use Rattle.charges.proofs.Figures.{interest_from, given_sized, given_agree, given_fits}
use Rattle.charges.proofs.Reading.{interest_refused, interest_given, start_told, ladder_told, group_refused, group_passed, number_first, number_none}
use Rattle.charges.proofs.interest_ladder.Goals as goal

pub returns-in_err-ladder_group : goal.returns-in_err-ladder_group
returns-in_err-ladder_group c =
    let wrong = c.in_err-ladder_group.ensures in
    interest_refused _ _ _ _ _ c.from_residual.ensures.1 (ladder_told _ wrong.0 ∙ group_refused _ wrong.1)

pub returns-in_err-by : goal.returns-in_err-by
returns-in_err-by c =
    let found = refused_number c.args.table.now _ c.in_err-by.ensures in
    interest_refused _ _ _ _ _ c.from_residual-in_err-by.ensures.1
    (start_told _ found ∙ number_first _ _ (some_of _ found) ∙ group_passed _ c.in_ok-ladder_group.ensures)

pub returns-in_err-positions : goal.returns-in_err-positions
unfolding told
returns-in_err-positions c =
    let fine = loaded_passed _ _ c.in_ok-by.ensures in
    interest_refused _ _ _ _ _ c.from_residual-in_err-positions.ensures.1
    (c.in_err-positions.ensures.refusal ∙ ap (λ refusal. ladder_refusal refusal c.args.group) (number_none _ _ fine))

pub interest_figures-requires-clause-table_bounds : goal.interest_figures-requires-clause-table_bounds
interest_figures-requires-clause-table_bounds c = loaded_bounds _ _ c.in_ok-by.ensures

pub interest_figures-requires-clause-band_count_in_bounds : goal.interest_figures-requires-clause-band_count_in_bounds
interest_figures-requires-clause-band_count_in_bounds c =
    let given = c.in_ok-positions.ensures.given in
    (omega (arith, given_sized given), given_fits given band_count (omega arith))

pub returns : goal.returns
unfolding told
returns c =
    let positions = c.in_ok-positions.positions in
    let group = c.args.group in
    let rows = class_rows c.args.book.now 1 in
    let fine = loaded_passed _ _ c.in_ok-by.ensures in
    interest_given _ _ _ (c.in_ok-positions.ensures.refusal ∙ ap (λ refusal. ladder_refusal refusal group) (number_none _ _ fine))
    (c.interest_figures.ensures
    ∙ interest_from positions 0 group rows c.in_ok-by.by (given_agree c.in_ok-positions.ensures.given band_count (omega arith))
    ∙ ap (λ (table : Table). interest_figures_of table group rows) (loaded_table _ _ c.in_ok-by.ensures))

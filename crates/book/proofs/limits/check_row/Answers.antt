-- `book::limits::check_row` meets its contract: the first of three leaves that refuses.
use mathlib.Core.Path.{sym, ◌∙◌}
use Rattle.book.specs.Reasons.{number_in}
use Rattle.book.specs.Refusals.{row_refusal}
use Rattle.book.proofs.Numbers.{number_on, some_of, or_first, or_next}
use Rattle.book.proofs.limits.check_row.Goals as goal

pub returns-in_err-check_group : goal.returns-in_err-check_group
unfolding row_refusal number_in
returns-in_err-check_group c =
    let found = c.in_err-check_group.ensures in
    number_on _ _ c.from_residual.ensures.1 found ∙ sym (or_first _ _ (some_of _ found))

pub returns-in_err-check_terms : goal.returns-in_err-check_terms
unfolding row_refusal number_in
returns-in_err-check_terms c =
    let found = c.in_err-check_terms.ensures in
    number_on _ _ c.from_residual-in_err-check_terms.ensures.1 found
    ∙ sym (or_next _ _ (sym c.in_ok-check_group.ensures) ∙ or_first _ _ (some_of _ found))

pub returns : goal.returns
unfolding row_refusal number_in
returns c =
    c.check_amounts.ensures
    ∙ sym (or_next _ _ (sym c.in_ok-check_group.ensures) ∙ or_next _ _ (sym c.in_ok-check_terms.ensures))

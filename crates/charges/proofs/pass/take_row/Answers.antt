-- `charges::pass::take_row` meets its contract: a row that passes is clean, and is added to the sums of its class.
use Rattle.std.proofs.Common.{◌≡◌, sym, ap, ◌∙◌, ℕ, arith}
use Rattle.book.specs.Accepted.{Clean}
use Rattle.book.specs.Refusals.{row_refusal}
use Rattle.book.specs.Reasons.{number_in}
use Rattle.book.proofs.Numbers.{number_on, some_of}
use Rattle.book.proofs.Passing.{passes_clean}
use Rattle.charges.proofs.Progress.{took_none}
use Rattle.charges.proofs.pass.take_row.Goals.{In_ok-check_row}
use Rattle.charges.proofs.pass.take_row.Goals as goal

-- a row that passed, of a class
clean : (c : In_ok-check_row) (class : ℕ) → c.args.class ≡ class → Clean class c.args.row
unfolding number_in
clean c class is = passes_clean class _ (ap (λ (n : ℕ). row_refusal n c.args.row) (sym is) ∙ sym c.in_ok-check_row.ensures)

pub returns-in_err-check_row : goal.returns-in_err-check_row
unfolding number_in
returns-in_err-check_row c =
    let found = c.in_err-check_row.ensures in
    let is = number_on _ _ c.from_residual.ensures.1 found in
    took_none _ _ is c.args.sums.now (λ none. some_of _ found (sym is ∙ none))

pub add_interest-requires-clause-clean : goal.add_interest-requires-clause-clean
add_interest-requires-clause-clean c = clean (goal.at.add_interest-requires-clause-clean c).In_ok-check_row 1 c.in-1.is

pub add_equity-requires-clause-clean : goal.add_equity-requires-clause-clean
add_equity-requires-clause-clean c = clean (goal.at.add_equity-requires-clause-clean c).In_ok-check_row 2 c.in-2.is

pub add_exchange-requires-clause-clean : goal.add_exchange-requires-clause-clean
add_exchange-requires-clause-clean c = clean (goal.at.add_exchange-requires-clause-clean c).In_ok-check_row 3 c.in-3.is

pub add_commodity-requires-clause-clean : goal.add_commodity-requires-clause-clean
add_commodity-requires-clause-clean c = clean (goal.at.add_commodity-requires-clause-clean c).In_ok-check_row 4 (omega arith)

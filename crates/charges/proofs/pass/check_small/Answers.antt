-- `charges::pass::check_small` meets its contract: the contents' reason, then 20.
use Rattle.std.proofs.Common.{◌≡◌, sym, ap, ◌∙◌, ◌+◌, arith}
use Rattle.book.specs.declared.Counts.{Counts}
use Rattle.book.specs.Counts.{counts_of}
use Rattle.book.specs.Reasons.{number_of, number_in}
use Rattle.book.proofs.Numbers.{number_on, some_of}
use Rattle.charges.proofs.Small.{small_first, small_some, small_neither}
use mathlib.Core.Logic.{⊎_elim}
use Rattle.charges.proofs.pass.check_small.Goals.{In_ok-counts}
use Rattle.charges.proofs.pass.check_small.Goals as goal

pub returns-in_err-counts-clause-number : goal.returns-in_err-counts-clause-number
unfolding number_in
returns-in_err-counts-clause-number c =
    let found = c.in_err-counts.ensures.number in
    number_on _ _ c.from_residual.ensures.1 found ∙ small_first _ (some_of _ found)

-- how many rows of interest and equity there are
many : (c : In_ok-counts) → (counts_of c.args.book.now).interest + (counts_of c.args.book.now).equity ≡ c.in_ok-counts.counts.interest + c.in_ok-counts.counts.equity
many c = ap (λ (counts : Counts). counts.interest + counts.equity) (sym c.in_ok-counts.ensures.counts)

pub returns-then-counts-ne0-clause-number : goal.returns-then-counts-ne0-clause-number
unfolding number_of number_in
returns-then-counts-ne0-clause-number c =
    let sum = many (goal.at.returns-then-counts-ne0-clause-number c).In_ok-counts in
    small_some _ (sym c.in_ok-counts.ensures.number) (λ none. ⊎_elim (λ some. some (omega (arith, sum))) (λ some. some.1 (omega (arith, sum))) c.then-counts-ne0.either)

pub returns-clause-number : goal.returns-clause-number
unfolding number_in
returns-clause-number c =
    let sum = many (goal.at.returns-clause-number c).In_ok-counts in small_neither _ (sym c.in_ok-counts.ensures.number) (omega (arith, sum))

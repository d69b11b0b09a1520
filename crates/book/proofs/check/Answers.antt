-- `book::check` meets its contract: it gives the refusal that the reader gives.
use Rattle.book.specs.Reasons.{told}
use Rattle.book.proofs.Numbers.{told_on}
use Rattle.book.proofs.check.Goals as goal

pub returns-in_err-read : goal.returns-in_err-read
unfolding told
returns-in_err-read c = told_on _ _ c.from_residual.ensures.1 c.in_err-read.ensures.refusal

pub returns : goal.returns
unfolding told
returns c = c.in_ok-read.ensures.refusal

-- `book::Counts::rows_before` meets its contract: the counts of the classes before, added.
use native.Mathlib.Omega.{arith}
use Rattle.book.specs.Counts.{rows_before, count_in, count_of_rows}
use Rattle.book.proofs.Placing.{before-none, before-all}
use Rattle.book.proofs.Counts.rows_before.Goals as goal

pub returns-in-2 : goal.returns-in-2
unfolding rows_before count_in
returns-in-2 c = rw c.in-2.is (omega arith)

pub returns-in-3 : goal.returns-in-3
unfolding rows_before count_in
returns-in-3 c = rw c.in-3.is (omega arith)

pub returns-in-4 : goal.returns-in-4
unfolding rows_before count_in
returns-in-4 c = rw c.in-4.is (omega arith)

pub returns-in-0 : goal.returns-in-0
returns-in-0 c =
    omega (arith, before-none c.args.self c.args.class (omega arith))

pub returns-in_default : goal.returns-in_default
unfolding count_of_rows
returns-in_default c =
    omega (arith, before-all c.args.self c.args.class (omega arith))

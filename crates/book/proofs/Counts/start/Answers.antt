-- `book::Counts::start` meets its contract: the tests are the definition's.
use Rattle.std.proofs.Common.{◌<◌, ◌≤◌, sym, arith}
use borrow.Author.Tests.{le-leb, lt-leb}
use Rattle.book.specs.Parts.{start_by}
use Rattle.book.proofs.Counts.start.Goals as goal

pub returns-in-1-to-4 : goal.returns-in-1-to-4
unfolding start_by
returns-in-1-to-4 c =
    let some : 1 ≤ c.args.class = omega arith in
    let last : c.args.class ≤ 4 = omega arith in
    sym (simp (le-leb _ _ some, le-leb _ _ last, ← c.rows_before.ensures.0))

pub returns-in_default : goal.returns-in_default
unfolding start_by
returns-in_default c =
    let none : c.args.class < 1 = omega arith in
    sym (simp (lt-leb _ _ none))

pub returns-in_default-2 : goal.returns-in_default-2
unfolding start_by
returns-in_default-2 c =
    let some : 1 ≤ c.args.class = omega arith in
    let past : 4 < c.args.class = omega arith in
    sym (simp (le-leb _ _ some, lt-leb _ _ past))

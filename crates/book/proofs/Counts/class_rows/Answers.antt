-- `book::Counts::class_rows` meets its contract: the match on the class is the definition's.
use native.Mathlib.Omega.{arith}
use borrow.Author.Tests.{ne_eqb}
use Rattle.book.specs.Counts.{count_in}
use Rattle.book.proofs.Counts.class_rows.Goals as goal

pub returns-in-1 : goal.returns-in-1
unfolding count_in
returns-in-1 c = simp c.in-1.is

pub returns-in-2 : goal.returns-in-2
unfolding count_in
returns-in-2 c = simp c.in-2.is

pub returns-in-3 : goal.returns-in-3
unfolding count_in
returns-in-3 c = simp c.in-3.is

pub returns-in-4 : goal.returns-in-4
unfolding count_in
returns-in-4 c = simp c.in-4.is

pub returns-in_default : goal.returns-in_default
unfolding count_in
returns-in_default c =
    let class = c.args.class in
    simp (ne_eqb class 1 (λ e. omega arith), ne_eqb class 2 (λ e. omega arith), ne_eqb class 3 (λ e. omega arith), ne_eqb class 4 (λ e. omega arith))

-- `book::contents::check` meets its contract: each test is the definition's, in its order.
use mathlib.Core.Path.{sym, ap, ◌∙◌}
use borrow.Author.Tests.{lt-ltb, le-ltb, eq-eqb, ne_eqb}
use Rattle.book.specs.Counts.{count_of_rows, counts_of}
use Rattle.book.specs.Reasons.{number_of, number_in}
use Rattle.book.specs.Refusals.{contents_refusal}
use Rattle.book.proofs.contents.check.Goals as goal

pub returns-then-book-lt-CONTENTS_SIZE-clause-number : goal.returns-then-book-lt-CONTENTS_SIZE-clause-number
unfolding contents_refusal number_in number_of
returns-then-book-lt-CONTENTS_SIZE-clause-number c = simp (lt-ltb _ _ c.if-book-lt-CONTENTS_SIZE.true)

pub returns-then-rows-gt-MOST_ROWS-clause-number : goal.returns-then-rows-gt-MOST_ROWS-clause-number
unfolding contents_refusal number_in number_of
returns-then-rows-gt-MOST_ROWS-clause-number c =
    let rows = c.rows-rows.ensures.0 ∙ ap count_of_rows c.counts-counts.ensures in
    simp (le-ltb _ _ c.if-book-lt-CONTENTS_SIZE.false, ← rows, lt-ltb _ _ c.if-rows-gt-MOST_ROWS.true)

pub returns-then-book-rows-clause-number : goal.returns-then-book-rows-clause-number
unfolding contents_refusal number_in number_of
returns-then-book-rows-clause-number c =
    let rows = c.rows-rows.ensures.0 ∙ ap count_of_rows c.counts-counts.ensures in
    simp (le-ltb _ _ c.if-book-lt-CONTENTS_SIZE.false, ← rows, le-ltb _ _ c.if-rows-gt-MOST_ROWS.false, ne_eqb _ _ c.if-book-rows.true)

pub returns-clause-number : goal.returns-clause-number
unfolding contents_refusal number_in
returns-clause-number c =
    let rows = c.rows-rows.ensures.0 ∙ ap count_of_rows c.counts-counts.ensures in
    simp (le-ltb _ _ c.if-book-lt-CONTENTS_SIZE.false, ← rows, le-ltb _ _ c.if-rows-gt-MOST_ROWS.false, eq-eqb _ _ c.if-book-rows.false)

-- `amounts::counting::class_left` meets its contract: the rows of a class are rows of the book.
use mathlib.Core.Path.{ap₂, ◌∙◌}
use native.Mathlib.Omega.{arith}
use Rattle.book.proofs.Placing.{before-within}
use Rattle.amounts.specs.Inner.Standing.{positions_in}
use Rattle.amounts.specs.Inner.Counting.{left_rows}
use Rattle.amounts.proofs.counting.class_left.Goals as goal

pub left_rows-requires : goal.left_rows-requires
left_rows-requires c =
    omega (arith, before-within c.args.counts c.args.class, c.rows_before.ensures.0, c.class_rows.ensures)

pub returns : goal.returns
returns c =
    c.left_rows.ensures
    ∙ ap₂ (left_rows (positions_in c.args.amounts.now)) c.rows_before.ensures.0 c.class_rows.ensures

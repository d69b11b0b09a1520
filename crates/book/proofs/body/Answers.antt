-- `book::body` meets its contract: a part that is cut at the end of the book.
use Prim.Native.Nat.{◌+◌, ◌*◌}
use Rattle.book.specs.Counts.{contents_size, row_size, count_in, rows_before, body_by}
use Rattle.book.proofs.Cutting.{cut}
use Rattle.book.proofs.body.Goals as goal

pub returns : goal.returns
unfolding body_by
returns c =
    let counts = c.args.counts in
    let class = c.args.class in
    rw (c.min-2.ensures, c.min.ensures, c.rows_before.ensures.0, c.from.ensures, c.class_rows.ensures)
    (cut c.args.book.now (contents_size + row_size * rows_before counts class) (row_size * count_in counts class))

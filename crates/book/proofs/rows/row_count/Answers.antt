-- `book::rows::row_count` meets its contract: a row is sixteen bytes.
use mathlib.Core.Path.{sym}
use Rattle.book.proofs.Chunks.{row_count}
use Rattle.book.proofs.rows.row_count.Goals as goal

pub returns : goal.returns
returns c = sym (row_count _)

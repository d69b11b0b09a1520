-- `book::rows::row_from` meets its contract: each field is read from its place in the file.
use Rattle.book.proofs.Chunks.{row_fields}
use Rattle.book.proofs.rows.row_from.Goals as goal

pub returns : goal.returns
returns c =
    let fields = row_fields c.args.s.now c.args.at in
    cc

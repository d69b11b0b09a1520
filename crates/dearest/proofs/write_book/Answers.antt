-- `dearest::write_book` meets its contract: the contents and then the rows.
use Rattle.dearest.proofs.Outcome.{book_written}
use Rattle.dearest.proofs.write_book.Goals as goal

pub returns : goal.returns
returns c =
    book_written _ _ c.args.out.now c.requires.2 c.interest_alone.ensures c.dearest_row.ensures c.write_contents.ensures c.write_rows.ensures

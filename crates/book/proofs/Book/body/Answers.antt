-- `book::Book::body` meets its contract: the counts are the book's own.
use mathlib.Core.Path.{ap, ◌∙◌}
use Rattle.book.specs.Counts.{Counts, body_by, body_of}
use Rattle.book.proofs.Book.body.Goals as goal

pub returns : goal.returns
unfolding body_of
returns c = c.body.ensures ∙ ap (λ (counts : Counts). body_by counts c.args.self.bytes.now c.args.class) c.args.self.own

-- `book::limits::wrong_kind` meets its contract: both tests are the definition's.
use borrow.Author.Tests.{lt-ltb, le-ltb}
use Rattle.book.proofs.limits.wrong_kind.Goals as goal

pub returns-then-kind-least_kind : goal.returns-then-kind-least_kind
returns-then-kind-least_kind c = simp (← c.least_kind.ensures, lt-ltb _ _ c.if-kind-least_kind.true)

pub returns-else-kind-least_kind : goal.returns-else-kind-least_kind
returns-else-kind-least_kind c = simp (← c.least_kind.ensures, le-ltb _ _ c.if-kind-least_kind.false, c.most_kind.ensures)

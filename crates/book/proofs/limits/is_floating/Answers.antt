-- `book::limits::is_floating` meets its contract: both tests are the definition's.
use borrow.Author.Tests.{eq-eqb, ne_eqb}
use Rattle.book.specs.Refusals.{floating}
use Rattle.book.proofs.limits.is_floating.Goals as goal

pub returns-then-class-eq1 : goal.returns-then-class-eq1
unfolding floating
returns-then-class-eq1 c = simp (eq-eqb _ _ c.if-class-eq1.true)

pub returns-else-class-eq1 : goal.returns-else-class-eq1
unfolding floating
returns-else-class-eq1 c = simp (ne_eqb _ _ c.if-class-eq1.false)

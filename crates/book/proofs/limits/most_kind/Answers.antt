-- `book::limits::most_kind` meets its contract: the match on the class is the definition's.
use borrow.Author.Tests.{ne_eqb}
use native.Mathlib.Omega.{arith}
use Rattle.book.specs.Refusals.{most_kind}
use Rattle.book.proofs.limits.most_kind.Goals as goal

pub returns-in-1 : goal.returns-in-1
unfolding most_kind
returns-in-1 c = rw c.in-1.is

pub returns-in-2 : goal.returns-in-2
unfolding most_kind
returns-in-2 c = rw c.in-2.is

pub returns-in_default : goal.returns-in_default
unfolding most_kind
returns-in_default c = simp (ne_eqb c.args.class 1 (λ e. omega arith), ne_eqb c.args.class 2 (λ e. omega arith))

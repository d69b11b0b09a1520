-- `book::limits::least_kind` meets its contract: the match on the class is the definition's.
use borrow.Author.Tests.{ne_eqb}
use native.Mathlib.Omega.{arith}
use Rattle.book.specs.Refusals.{least_kind}
use Rattle.book.proofs.limits.least_kind.Goals as goal

pub returns-in-1 : goal.returns-in-1
unfolding least_kind
returns-in-1 c = rw c.in-1.is

pub returns-in-2 : goal.returns-in-2
unfolding least_kind
returns-in-2 c = rw c.in-2.is

pub returns-in_default : goal.returns-in_default
unfolding least_kind
returns-in_default c = simp (ne_eqb c.args.class 1 (λ e. omega arith), ne_eqb c.args.class 2 (λ e. omega arith))

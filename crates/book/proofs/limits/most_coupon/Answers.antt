-- `book::limits::most_coupon` meets its contract: the match on the class is the definition's.
use borrow.Author.Tests.{eq-eqb, ne_eqb}
use native.Mathlib.Omega.{arith}
use Rattle.book.specs.Refusals.{most_coupon}
use Rattle.book.proofs.limits.most_coupon.Goals as goal

pub returns-in-1 : goal.returns-in-1
unfolding most_coupon
returns-in-1 c = simp (eq-eqb _ _ c.in-1.is)

pub returns-in_default : goal.returns-in_default
unfolding most_coupon
returns-in_default c = simp (ne_eqb c.args.class 1 (λ e. omega arith))

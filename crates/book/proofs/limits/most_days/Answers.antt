-- `book::limits::most_days` meets its contract: the match on the class is the definition's.
use mathlib.Core.Bool.{or-true}
use mathlib.Core.Logic.{⊎_elim}
use borrow.Author.Tests.{eq-eqb, ne_eqb}
use native.Mathlib.Omega.{arith}
use Rattle.book.specs.Refusals.{most_days}
use Rattle.book.proofs.limits.most_days.Goals as goal

pub returns-in-1 : goal.returns-in-1
unfolding most_days
returns-in-1 c =
    let class = c.args.class in
    ⊎_elim (λ e. simp (eq-eqb class 1 e)) (λ e. simp (eq-eqb class 4 e, or-true)) c.in-1.is

pub returns-in_default : goal.returns-in_default
unfolding most_days
returns-in_default c = simp (ne_eqb c.args.class 1 (λ e. grind arith), ne_eqb c.args.class 4 (λ e. grind arith))

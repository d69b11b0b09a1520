-- `trade::search::Open::least` meets its contract: nothing to add, or the least amount before the turn, or after it.
use mathlib.Core.Path.{sym}
use native.Mathlib.Omega.{arith}
use Rattle.trade.proofs.Searching.{found_at}
use Rattle.trade.proofs.Halving.{no_weight}
use Rattle.trade.proofs.search.Open.least.Goals as goal

pub returns-then-charge-limit : goal.returns-then-charge-limit
returns-then-charge-limit c = sym (found_at _ _ 0 (omega arith) (omega (arith, c.charge.ensures)) (λ j h. omega arith))

pub returns-then-self-eq0 : goal.returns-then-self-eq0
returns-then-self-eq0 c =
    sym (no_weight _ c.if-self-eq0.true _ (omega (arith, c.charge.ensures)))

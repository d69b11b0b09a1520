-- `options::OptionRow::delta_amount` meets its contract: the product fits, and the amount is at most that of the underlying.
use mathlib.Core.Path.{◌≡◌}
use Prim.Native.Nat.{◌*◌}
use native.Mathlib.Nat.{mul-le-mul}
use native.Mathlib.Omega.{arith}
use Rattle.options.specs.Delta.{delta_amount}
use Rattle.options.proofs.Rounding.{delta_within}
use Rattle.options.proofs.OptionRow.delta_amount.Goals.{After-from-2}
use Rattle.options.proofs.OptionRow.delta_amount.Goals as goal

product : (c : After-from-2) → c.from.result * c.from-2.result ≡ c.args.self.amount * c.args.self.delta
product c = rw (c.from.ensures, c.from-2.ensures)

pub overflow_mul-from : goal.overflow_mul-from
overflow_mul-from c = omega (arith, product c, mul-le-mul c.requires.amount_to c.requires.delta)

pub overflow_cast-result : goal.overflow_cast-result
unfolding delta_amount
overflow_cast-result c =
    omega (arith, product (goal.at.overflow_cast-result c).After-from-2, delta_within c.args.self c.requires.delta, c.requires.amount_to)

pub returns : goal.returns
unfolding delta_amount
returns c = omega (arith, product (goal.at.returns c).After-from-2)

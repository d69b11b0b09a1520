-- The amount of an option's row: that of the underlying times delta, rounded up to a whole unit.
-- Assumes nothing.
use Prim.Native.Nat.{ℕ, ◌+◌, ◌*◌, ◌/◌, ◌≤◌, ◌<◌}
use native.Mathlib.Nat.{mul-le-mul, mul-le-mul_left}
use native.Mathlib.Omega.{arith}
use Rattle.options.specs.Table.{OptionRow}
use Rattle.options.specs.Refusals.{whole_delta}
use Rattle.options.specs.Delta.{delta_amount}

-- a number over 10,000, rounded up: what it comes to, and when it is not 0
up_least : (n : ℕ) → n ≤ whole_delta * ((n + 9999) / whole_delta)
up_least n = omega arith

up_most : (n : ℕ) → whole_delta * ((n + 9999) / whole_delta) < n + whole_delta
up_most n = omega arith

module _ (option : OptionRow) where
  -- never below the exact amount
  pub delta_least : option.amount * option.delta ≤ whole_delta * delta_amount option
  unfolding delta_amount
  delta_least = up_least (option.amount * option.delta)

  -- and less than one unit above it
  pub delta_most : whole_delta * delta_amount option < option.amount * option.delta + whole_delta
  unfolding delta_amount
  delta_most = up_most (option.amount * option.delta)

  pub delta_within : option.delta ≤ whole_delta → delta_amount option ≤ option.amount
  delta_within whole = omega (arith, delta_most, mul-le-mul_left option.amount whole)

  pub delta_some : 1 ≤ option.amount → 1 ≤ option.delta → 1 ≤ delta_amount option
  delta_some amount delta = omega (arith, delta_least, mul-le-mul amount delta)

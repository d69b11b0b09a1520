-- `charges::general::exchange_general` meets its contract: the parts of the tables are the positions of the currencies, with gold.
use mathlib.Core.Path.{◌∙◌, ap}
use Prim.Native.Nat.{ℕ, ◌*◌}
use native.Mathlib.Omega.{arith}
use Rattle.sums.specs.Sums.{span}
use Rattle.ladder.proofs.Agreeing.{gross-agree, shorthand-agree}
use Rattle.charges.specs.Charges.{eight_per_cent}
use Rattle.charges.specs.Inner.Slots.{group_count, exchange_first}
use Rattle.charges.proofs.Arrays.{part_agrees}
use Rattle.charges.proofs.general.exchange_general.Goals as goal

pub shorthand-requires-clause-many_bound : goal.shorthand-requires-clause-many_bound
unfolding span
shorthand-requires-clause-many_bound c =
    omega (
      arith,
      gross-agree (part_agrees exchange_first group_count c.args.sums.now.positions),
      c.requires.1,
    )

pub overflow_mul-result : goal.overflow_mul-result
unfolding span
overflow_mul-result c =
    omega (
      arith,
      c.shorthand.ensures.within,
      gross-agree (part_agrees exchange_first group_count c.args.sums.now.positions),
      c.requires.1,
    )

pub returns : goal.returns
returns c =
    ap (λ (n : ℕ). eight_per_cent * n)
    (c.shorthand.ensures.is
    ∙ shorthand-agree
    (part_agrees exchange_first group_count c.args.sums.now.positions))

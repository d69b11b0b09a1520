-- `charges::general::equity_general` meets its contract: the parts of the tables are the positions of the markets.
use mathlib.Core.Path.{◌∙◌, ap}
use Prim.Native.Nat.{ℕ, ◌*◌}
use native.Mathlib.Omega.{arith}
use Rattle.ladder.proofs.Agreeing.{gross-agree, absolutes_agree}
use Rattle.charges.specs.Charges.{eight_per_cent}
use Rattle.charges.specs.Inner.Slots.{group_count, equity_first}
use Rattle.charges.proofs.Arrays.{part_agrees}
use Rattle.charges.proofs.general.equity_general.Goals as goal

pub absolute_nets-requires-clause-many_bound : goal.absolute_nets-requires-clause-many_bound
absolute_nets-requires-clause-many_bound c =
    omega (
      arith,
      gross-agree (part_agrees equity_first group_count c.args.sums.now.positions),
      c.requires.1,
    )

pub overflow_mul-result : goal.overflow_mul-result
overflow_mul-result c =
    omega (
      arith,
      c.absolute_nets.ensures.within,
      gross-agree (part_agrees equity_first group_count c.args.sums.now.positions),
      c.requires.1,
    )

pub returns : goal.returns
returns c =
    ap (λ (n : ℕ). eight_per_cent * n)
    (c.absolute_nets.ensures.is
    ∙ absolutes_agree
    (part_agrees equity_first group_count c.args.sums.now.positions))

-- `charges::general::commodity_simplified` meets its contract: the array is the positions of the commodities.
use mathlib.Core.Path.{◌∙◌}
use native.Mathlib.Omega.{arith}
use Rattle.ladder.proofs.Totals.{band_within}
use Rattle.ladder.proofs.Agreeing.{gross-agree, simplified-agree}
use Rattle.charges.specs.Inner.Slots.{group_count}
use Rattle.charges.specs.Inner.Tables.{commodity_groups}
use Rattle.charges.proofs.general.commodity_simplified.Goals as goal

pub commodity_sums-requires : goal.commodity_sums-requires
commodity_sums-requires c = (
  c.requires.positions_len,
  λ g h.
      let within = band_within (commodity_groups c.args.sums.now.positions) g group_count h in
      (omega (arith, c.requires.groups_bound, within), omega (arith, c.requires.groups_bound, within)),
)

pub simplified-requires-clause-many_bound : goal.simplified-requires-clause-many_bound
simplified-requires-clause-many_bound c =
    omega (
      arith,
      gross-agree (record { below = c.commodity_sums.ensures }),
      c.requires.groups_bound,
    )

pub returns : goal.returns
returns c = c.simplified.ensures ∙ simplified-agree (record { below = c.commodity_sums.ensures })

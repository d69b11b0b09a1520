-- `charges::general::interest_figures` meets its contract: the array is the weighted bands of the currency.
use mathlib.Core.Path.{◌∙◌}
use Prim.Native.Nat.{◌≤◌}
use native.Mathlib.Omega.{arith}
use Rattle.sums.specs.Sums.{span}
use Rattle.ladder.specs.Position.{gross, total}
use Rattle.ladder.specs.Table.{most_weight}
use Rattle.ladder.specs.Inner.Steps.{limit, band_count}
use Rattle.ladder.proofs.Totals.{band_within}
use Rattle.ladder.proofs.Agreeing.{gross-agree, interest_agree}
use Rattle.ladder.proofs.Bounds.{weighted_gross}
use Rattle.charges.specs.Inner.Tables.{bands_from, weighted_from}
use Rattle.charges.proofs.general.interest_figures.Goals.{Start}
use Rattle.charges.proofs.general.interest_figures.Goals as goal

-- the weighted bands are within the ladder's limit
weighted_fits : (start : Start)
    → gross (total (weighted_from start.args.table.now start.args.positions.now start.args.first) (span 0 band_count)) ≤ limit
weighted_fits start =
    let bands = bands_from start.args.positions.now start.args.first in
    omega (
      arith,
      start.requires.band_count_in_bounds.1,
      weighted_gross start.args.table.now most_weight start.requires.table_bounds.weights bands
          (span 0 band_count),
    )

pub weighted_bands-weighted-requires-clause-by_index : goal.weighted_bands-weighted-requires-clause-by_index
weighted_bands-weighted-requires-clause-by_index c k h =
    let fits = weighted_fits (goal.at.weighted_bands-weighted-requires-clause-by_index c).Start in
    let within = band_within (weighted_from c.args.table.now c.args.positions.now c.args.first) k band_count h in
    (omega (arith, fits, within), omega (arith, fits, within))

pub interest-requires : goal.interest-requires
unfolding span
interest-requires c =
    record {
      accepted_percents = c.requires.table_bounds.percents;
      zones_bound =
          omega (
            arith,
            gross-agree (record { below = c.weighted_bands-weighted.ensures }),
            weighted_fits (goal.at.interest-requires c).Start,
          );
    }

pub returns : goal.returns
returns c = c.interest.ensures.is ∙ interest_agree _ (record { below = c.weighted_bands-weighted.ensures })

-- `charges::bands::commodity_band` meets its contract: the third column ascends.
use mathlib.Core.Path.{refl, ◌∙◌}
use Prim.Native.Nat.{◌≤◌}
use native.Mathlib.Omega.{arith}
use Rattle.charges.specs.Bands.{commodity_column, commodity_band}
use Rattle.charges.specs.Inner.Columns.{ascending, largest}
use Rattle.charges.proofs.Columns.{first-within, first-filled}
use Rattle.charges.proofs.bands.commodity_band.Goals as goal

pub first_band-requires : goal.first_band-requires
unfolding ascending
first_band-requires c =
    let days : c.args.row.days ≤ largest = omega arith in
    (omega arith, refl, days)

pub returns : goal.returns
unfolding commodity_band
returns c =
    let row = c.args.row in
    let days : row.days ≤ largest = omega arith in
    let is = c.first_band.ensures ∙ first-filled row.days days commodity_column 10 in
    (is, omega (arith, is, first-within row.days commodity_column))

-- `charges::bands::interest_band` meets its contract: the column goes by the coupon, and both ascend.
use mathlib.Core.Path.{◌≡◌, refl, ap, ◌∙◌}
use mathlib.Core.Bool.{Bool, true, false, cond}
use Prim.Native.Nat.{ℕ, ◌+◌, ◌*◌, ◌≤◌}
use native.Mathlib.Omega.{arith}
use mir.Val.{bool_byte}
use lib.ListN.{get_or}
use Rattle.charges.specs.Bands.{first_band, high_column, low_column, interest_band}
use Rattle.charges.specs.Inner.Columns.{ascending, column_size, largest, columns, column_from}
use Rattle.charges.proofs.Columns.{first-filled}
use Rattle.charges.proofs.Places.{interest_below}
use Rattle.charges.proofs.bands.interest_band.Goals as goal

-- each column ascends, and no days are above its last entry
asked : (days : ℕ) (low : Bool) → days ≤ largest
    → (column_size * bool_byte low + column_size ≤ 48)
    × (ascending (column_from (column_size * bool_byte low) columns) ≡ true)
    × (days ≤ get_or columns (column_size * bool_byte low + 15) 0)
unfolding ascending
asked days true h = (omega arith, refl, h)
asked days false h = (omega arith, refl, h)

found : (days : ℕ) (low : Bool) → days ≤ largest
    → first_band days (column_from (column_size * bool_byte low) columns) ≡ cond low (first_band days low_column) (first_band days high_column)
found days true h = first-filled days h low_column 2
found days false h = first-filled days h high_column 4

pub first_band-requires : goal.first_band-requires
first_band-requires c = rw c.from.ensures (asked c.args.row.days c.low_coupon.result (omega arith))

pub returns : goal.returns
unfolding interest_band
returns c =
    let row = c.args.row in
    let is = c.first_band.ensures
    ∙ ap (λ (place : ℕ). first_band row.days (column_from (column_size * place) columns))
    c.from.ensures
    ∙ found row.days c.low_coupon.result (omega arith)
    ∙ ap (λ (test : Bool). cond test (first_band row.days low_column) (first_band row.days high_column)) c.low_coupon.ensures in
    (is, omega (arith, is, interest_below row))

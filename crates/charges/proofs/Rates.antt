-- Each charge is at most its rate times the amounts of its rows, for every table; and what interest rows without shorts cost.
-- Assumes nothing.
use Prim.Native.Nat.{ℕ, ◌*◌, ◌≤◌, ◌<◌}
use mathlib.Core.Path.{◌≡◌, ap, ◌∙◌}
use mathlib.Core.List.{List}
use native.Mathlib.Nat.{mul-zero}
use native.Mathlib.Omega.{arith}
use Rattle.sums.specs.Sums.{sum_of, span}
use Rattle.sums.specs.Every.{Every}
use Rattle.sums.proofs.Every.{every_all, none_where}
use Rattle.book.specs.declared.Row.{Row}
use Rattle.ladder.specs.Position.{gross, total}
use Rattle.ladder.specs.declared.Table.{Table}
use Rattle.ladder.specs.Table.{AcceptedPercents, weight_in}
use Rattle.ladder.specs.Rows.{weighing, groups_of}
use Rattle.ladder.proofs.Netting.{absolutes_within, shorthand-within, simplified-within}
use Rattle.ladder.proofs.Bounds.{groups-within, general_within, general_unopposed, commodities_within}
use Rattle.charges.specs.Bands.{interest_band, band_in}
use Rattle.charges.specs.Charges.{eight_per_cent, groups, currencies, reading, interest_figures_of, commodity_figures_of, interest_general, equity_general, exchange_general, commodity_general, simplified_commodity}
use Rattle.charges.specs.Inner.Slots.{group_count}
use Rattle.charges.proofs.Legs.{amounts}
use Rattle.charges.proofs.Places.{interest_below}

-- where no weight is above the most of a table
pub interest_rate : (table : Table) (most : ℕ) → ((band : ℕ) → weight_in table band ≤ most) → AcceptedPercents table.percents → (rows : List Row)
    → interest_general table rows ≤ 100 * most * amounts rows
unfolding interest_general interest_figures_of amounts
interest_rate table most weights ok rows = general_within table most weights (reading 1) ok group_count rows

-- rows without shorts cost 100% of their weighted longs
pub interest_unopposed : (table : Table) → AcceptedPercents table.percents → {rows : List Row} → Every (λ row. row.group < group_count) rows
    → sum_of (λ row. row.short) rows ≡ 0 → interest_general table rows ≡ 100 * sum_of (λ row. weight_in table (interest_band row) * row.long) rows
unfolding interest_general interest_figures_of band_in
interest_unopposed table ok {rows} grouped none =
    general_unopposed (weighing table (reading 1)) table.percents ok group_count (every_all interest_below rows) grouped
    (none_where (λ row. row.short) (λ row. weight row * row.short) (λ row e. ap (λ (n : ℕ). weight row * n) e ∙ mul-zero (weight row)) rows none)
  where
    weight : Row → ℕ
    weight row = weight_in table (interest_band row)

pub groups-rate : (class : ℕ) (rows : List Row) → gross (total (groups_of (reading class) rows) groups) ≤ amounts rows
unfolding amounts
groups-rate class rows = groups-within (reading class) group_count rows

pub equity-rate : (rows : List Row) → equity_general rows ≤ eight_per_cent * amounts rows
unfolding equity_general
equity-rate rows = omega (arith, absolutes_within groups (groups_of (reading 2) rows), groups-rate 2 rows)

pub exchange_rate : (rows : List Row) → exchange_general rows ≤ eight_per_cent * amounts rows
unfolding exchange_general span
exchange_rate rows = omega (arith, shorthand-within currencies (groups_of (reading 3) rows), groups-rate 3 rows)

pub commodity-rate : (rows : List Row) → commodity_general rows ≤ 186000 * amounts rows
unfolding commodity_general commodity_figures_of amounts
commodity-rate rows = commodities_within (reading 4) group_count rows

pub simplified-rate : (rows : List Row) → simplified_commodity rows ≤ 180000 * amounts rows
unfolding simplified_commodity
simplified-rate rows = omega (arith, simplified-within groups (groups_of (reading 4) rows), groups-rate 4 rows)

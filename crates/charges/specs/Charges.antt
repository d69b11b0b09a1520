-- The six charges over lists of rows, in mils; those of interest by a table of weights and per cents.
use Rattle.std.specs.Prelude.{ℕ, ◌+◌, ◌*◌}
use mathlib.Core.List.{List, map, filter}
use Rattle.std.proofs.Math.Decide.{ℕ_discrete}
use Rattle.sums.specs.Sums.{sum_of, span}
use Rattle.book.specs.declared.Row.{Row}
use Rattle.book.specs.Refusals.{last_group}
use Rattle.ladder.specs.declared.InterestFigures.{InterestFigures}
use Rattle.ladder.specs.declared.CommodityFigures.{CommodityFigures}
use Rattle.ladder.specs.declared.Table.{Table}
use Rattle.ladder.specs.Interest.{interest_figures}
use Rattle.ladder.specs.Commodity.{commodity_figures}
use Rattle.ladder.specs.Nets.{absolute_nets, shorthand, simplified}
use Rattle.ladder.specs.Rows.{Reading, weighing, ladder_of, groups_of}
use Rattle.charges.specs.Bands.{band_in}
use Rattle.charges.specs.Weights.{specific_weight}
pub use Rattle.charges.specs.declared.Risk.{Risk}

-- a basis point of an amount unit (document 01, The book file)
abbrev pub basis_point : ℕ
basis_point = 100

-- 8% of an amount unit (document 01, Equity and foreign exchange)
abbrev pub eight_per_cent : ℕ
eight_per_cent = 800 * basis_point

-- the groups of a class (document 01, The book file)
abbrev pub groups : List ℕ
groups = span 0 (last_group + 1)

-- the currencies of foreign exchange, of which group 0 is gold (document 01, The book file)
abbrev pub currencies : List ℕ
currencies = span 1 last_group

-- how the rows of a class are read: group, band, and the two amounts (document 01, The book file)
abbrev pub reading : ℕ → Reading Row
reading class = record { group = λ row. row.group; band = band_in class; long = λ row. row.long; short = λ row. row.short }

-- specific risk is charged on each row's amount (document 01, Interest: bands and zones; Equity and foreign exchange)
unfoldable pub specific_of : ℕ → Row → ℕ
specific_of class row = basis_point * (specific_weight class row * (row.long + row.short))

-- of all rows of a class (document 01, Interest: bands and zones; Equity and foreign exchange)
unfoldable pub specific_charge : ℕ → List Row → ℕ
specific_charge class rows = sum_of (specific_of class) rows

-- the ladder of one currency, in weighted positions (document 01, Interest: bands and zones)
unfoldable pub interest_figures_of : Table → ℕ → List Row → InterestFigures
interest_figures_of table group rows = interest_figures table.percents (ladder_of (weighing table (reading 1)) group rows)

-- the ladder of one commodity, in amount units (document 01, The commodities ladder)
unfoldable pub commodity_figures_of : ℕ → List Row → CommodityFigures
commodity_figures_of group rows = commodity_figures (ladder_of (reading 4) group rows)

-- the ladders of all currencies, summed (document 01, Interest: bands and zones)
unfoldable pub interest_general : Table → List Row → ℕ
interest_general table rows = sum_of (λ group. (interest_figures_of table group rows).charge) groups

-- 8% of each market's absolute net, summed (document 01, Equity and foreign exchange)
unfoldable pub equity_general : List Row → ℕ
equity_general rows = eight_per_cent * absolute_nets groups (groups_of (reading 2) rows)

-- 8% of the shorthand net, with gold (document 01, Equity and foreign exchange)
unfoldable pub exchange_general : List Row → ℕ
exchange_general rows = eight_per_cent * shorthand currencies (groups_of (reading 3) rows)

-- the ladders of all commodities, summed (document 01, The commodities ladder)
unfoldable pub commodity_general : List Row → ℕ
commodity_general rows = sum_of (λ group. (commodity_figures_of group rows).charge) groups

-- 15% of each commodity's absolute net and 3% of its gross, whatever the days (P11; A.4, 12 and 13)
unfoldable pub simplified_commodity : List Row → ℕ
simplified_commodity rows = simplified groups (groups_of (reading 4) rows)

-- the two parts of the interest charge (document 01, Interest: bands and zones)
unfoldable pub interest_risk : Table → List Row → Risk
interest_risk table rows = record { specific = specific_charge 1 rows; general = interest_general table rows }

-- and of the equity charge (document 01, Equity and foreign exchange)
unfoldable pub equity_risk : List Row → Risk
equity_risk rows = record { specific = specific_charge 2 rows; general = equity_general rows }

-- ---- by currency
-- the rows of one group alone (P6)
unfoldable pub of_group : ℕ → List Row → List Row
of_group group rows = filter (λ row. ℕ_discrete row.group group) rows

-- a charge of each currency's rows alone, from currency 0 on (P6)
unfoldable pub by_currency : (List Row → ℕ) → List Row → List ℕ
by_currency charge rows = map (λ currency. charge (of_group currency rows)) groups
